-- What shortening promises: the answer, and what stands in the lent list at the end, each equal to the request's.
-- Assumes nothing.
use Rattle.std.specs.Prelude.{◌≡◌, List, ℕ, length}
use Rattle.paper.specs.Order.{Order}
use Rattle.paper.specs.Answers.{told}
use Rattle.docket.specs.Reading.{verdict_of}
use Rattle.docket.specs.Verdict.{Verdict}
use Rattle.trips.specs.Shortening.{shortening, shortening_end}

module _ (o : Order) (plan marks : List ℕ) where
  pub record ShortenSays (out : List ℕ) (answer : Verdict) (out' : List ℕ) : Type 0 where
    pub answers : verdict_of answer ≡ told (shortening o plan marks (length out))
    pub ends_as : out' ≡ shortening_end o plan marks out
