-- What the functions promise.
-- Assumes nothing.
use Rattle.std.specs.Prelude.{◌≡◌, List, ℕ, ◌<◌, ℤ, length, get_or, Err, Ok}
use Rattle.std.proofs.Math.Option.{Option, none, some}
use Rattle.paper.specs.Limits.{most_carriers}
use Rattle.paper.specs.Yard.{Carrier, crossings}
use Rattle.paper.specs.Dependence.{count_of}
use Rattle.docket.specs.Reading.{verdict_of}
use Rattle.docket.specs.Verdict.{Verdict as Held}
use Rattle.comparing.specs.Comparing.{first_above, comparison, part_by, longer_by, differences_by, number_by, value_by}
use Rattle.comparing.specs.Counted.{Counted}

abbrev pub counted_of : Counted → Option Carrier
counted_of (Ok tt) = none
counted_of (Err c) = some c.0

-- each number is the count of one carrier's crossings
abbrev pub Counts : List ℕ → List ℕ → Type 0
Counts list counts = (c : Carrier) → c < most_carriers → get_or counts c 0 ≡ count_of c (crossings list)

-- of one list: the first carrier number above 253, or the count for each carrier
pub record CountSays (list : List ℕ) (answer : Counted) (counts : List ℕ) : Type 0 where
  pub answers : counted_of answer ≡ first_above list
  pub counted : counted_of answer ≡ none → Counts list counts

module _ (first second : List ℕ) (lent : List ℤ) where
  pub record DifferSays (answer : Held) (lent' : List ℤ) : Type 0 where
    pub answers : verdict_of answer ≡ comparison first second (length lent)
    pub leaves : lent' ≡ differences_by first second lent (comparison first second (length lent))

  -- the part handed back, and the three numbers that tell of it
  pub record CompareSays (part : List ℕ) (number value longer : ℕ) (lent' : List ℤ) : Type 0 where
    pub numbered : number ≡ number_by (comparison first second (length lent))
    pub valued : value ≡ value_by (comparison first second (length lent))
    pub which : longer ≡ longer_by first second (comparison first second (length lent))
    pub hands_back : part ≡ part_by first second (comparison first second (length lent))
    pub leaves : lent' ≡ differences_by first second lent (comparison first second (length lent))
