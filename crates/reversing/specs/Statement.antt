-- What `reverse` promises for every list and every room: the answer, and what stands in the lent room at the end.
-- Assumes nothing.
use Rattle.std.specs.Prelude.{◌≡◌, List, ℕ, length}
use Rattle.docket.specs.Reading.{verdict_of}
use Rattle.docket.specs.Verdict.{Verdict}
use Rattle.reversing.specs.Reversing.{reversing, reversing_end}

pub record ReverseSays (list out : List ℕ) (answer : Verdict) (out' : List ℕ) : Type 0 where
  pub answers : verdict_of answer ≡ reversing list (length out)
  pub leaves : out' ≡ reversing_end list out
