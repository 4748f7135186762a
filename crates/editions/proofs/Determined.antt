-- Any two answers that the statement allows are equal, and so are what they leave.
use mathlib.Core.List.{List}
use Prim.Native.Nat.{ℕ}
use lib.ListN.{length}
use Rattle.paper.specs.Order.{Order}
use Rattle.paper.proofs.Determined.{Determined, determined-by}
use Rattle.docket.specs.Reading.{verdict_of}
use Rattle.docket.proofs.Telling.{verdict-tells}
use Rattle.editions.specs.Editions.{slots_of, slots_of_end}
use Rattle.editions.specs.Statement.{SlotsOfSay}

pub slots-of-determined : (o : Order) (plan : List ℕ) (e : ℕ) (out : List ℕ)
    → Determined (SlotsOfSay o plan e out)
slots-of-determined o plan e out a a' l l' s t =
    determined-by verdict_of verdict-tells (slots_of o plan e (length out)) (slots_of_end o plan e out)
    a a' l l' (s.answers, s.leaves) (t.answers, t.leaves)
