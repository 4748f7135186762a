-- What slots by an edition promise: the answer, and what stands in the lent list at the end.
-- Assumes nothing.
use Rattle.std.specs.Prelude.{◌≡◌, List, ℕ, length}
use Rattle.paper.specs.Order.{Order}
use Rattle.docket.specs.Reading.{verdict_of}
use Rattle.docket.specs.Verdict.{Verdict}
use Rattle.editions.specs.Editions.{slots_of, slots_of_end}

pub record SlotsOfSay (o : Order) (plan : List ℕ) (e : ℕ) (out : List ℕ) (answer : Verdict) (out' : List ℕ) : Type 0 where
  pub answers : verdict_of answer ≡ slots_of o plan e (length out)
  pub leaves : out' ≡ slots_of_end o plan e out
