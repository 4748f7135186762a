-- Any two answers that the statement allows are equal, and so is what they leave.
use mathlib.Core.List.{List}
use Prim.Native.Nat.{ℕ}
use lib.ListN.{length}
use Rattle.paper.proofs.Determined.{Determined, determined-by}
use Rattle.docket.specs.Reading.{verdict_of}
use Rattle.docket.proofs.Telling.{verdict-tells}
use Rattle.reversing.specs.Reversing.{reversing, reversing_end}
use Rattle.reversing.specs.Statement.{ReverseSays}

pub reverse-determined : (list out : List ℕ) → Determined (ReverseSays list out)
reverse-determined list out a b l m s t =
    determined-by verdict_of verdict-tells (reversing list (length out)) (reversing_end list out) a b l m (s.answers, s.leaves) (t.answers, t.leaves)
