-- The table of joined bays: row a holds the bays that a rail joins to a.
-- Assumes nothing.
use Rattle.std.specs.Prelude.{◌≡◌, true, List, ℕ, ◌<◌}
use Rattle.paper.specs.Yard.{Yard, joined}
use Rattle.words.specs.Sets.{mem_row, span}

-- the rows are the joined bays of a yard of n bays, whose rails join only these
pub record Table (Y : Yard) (n : ℕ) (table : List ℕ) : Type 0 where
  pub bays : Y.bays ≡ n
  pub same : (a b : ℕ) → a < n → b < span → mem_row table a b ≡ joined Y a b
  pub inside : (a b : ℕ) → joined Y a b ≡ true → (a < n) × (b < n)
