-- What the set of occupied bays and the count of empty ones promise.
-- Assumes nothing.
use Rattle.std.specs.Prelude.{◌≡◌, List, ℕ, ◌≤◌, ◌<◌}
use Rattle.paper.specs.Basics.{elem}
use Rattle.paper.specs.Yard.{Bay, Placement, most_bays, occupied, empty_bays}
use Rattle.words.specs.Sets.{mem}

-- the set holds the occupied bays
pub record Occupies (n : ℕ) (place : Placement) (set : List ℕ) : Type 0 where
  pub same : (b : Bay) → mem set b ≡ elem b (occupied n place)

-- the number of empty bays; 0 of a yard over the limit, which is none that was opened
pub record Empty (n : ℕ) (place : Placement) (r : ℕ) : Type 0 where
  pub within : n ≤ most_bays → r ≡ empty_bays n place
  pub beyond : most_bays < n → r ≡ 0
