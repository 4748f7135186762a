-- Any two answers that the statement allows are equal, and so is what is left in the lent list.
use Rattle.std.specs.Prelude.{if◌then◌else◌}
use mathlib.Core.List.{List}
use Prim.Native.Nat.{ℕ}
use lib.Dec.{ltb}
use lib.ListN.{length}
use lib.Seq.{sets}
use Rattle.paper.specs.Docket.{granted, denied, room}
use Rattle.paper.specs.Text.{Text}
use Rattle.paper.proofs.Determined.{Determined, determined-by}
use Rattle.docket.specs.Reading.{verdict_of}
use Rattle.docket.proofs.Telling.{verdict-tells}
use Rattle.timed_handing.specs.Handing.{TimedSays}

pub timed-determined : (t : Text) (out : List ℕ) → Determined (TimedSays t out)
timed-determined t out a a' l l' s u =
    determined-by verdict_of verdict-tells (if ltb (length out) (length t) then denied (room (length t)) else granted (length t)) (if ltb (length out) (length t) then out else sets out 0 t)
    a a' l l' (s.answers, s.leaves) (u.answers, u.leaves)
