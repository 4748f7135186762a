-- What the exported readers of files promise.
-- Assumes nothing.
use Rattle.std.specs.Prelude.{◌≡◌, List, ℕ, length}
use Rattle.numbers.specs.Numbers.{verdict_number, verdict_value}
use Rattle.numbers.specs.Tells.{Tells}
use Rattle.listing.specs.Reading.{Laid, laid_verdict, laid_bays, laid_rails, Listing, list_verdict, list_starts, list_goals}

-- the number of rails' ends, the bays, and the ends in the lent list
pub record MapTells (x : Laid) (before : List ℕ) (told value bays : ℕ) (after : List ℕ) : Type 0 where
  pub tells : Tells (verdict_number (laid_verdict (length before) x)) (verdict_value (laid_verdict (length before) x)) told value
  pub bays_then : bays ≡ laid_bays (length before) x
  pub leaves : after ≡ laid_rails before x

-- the number of carriers, and their starts and goals in the lent lists
pub record ScenarioTells (x : Listing) (starts goals : List ℕ) (told value : ℕ) (starts' goals' : List ℕ) : Type 0 where
  pub tells : Tells (verdict_number (list_verdict starts goals x)) (verdict_value (list_verdict starts goals x)) told value
  pub starts_then : starts' ≡ list_starts starts goals x
  pub goals_then : goals' ≡ list_goals starts goals x
