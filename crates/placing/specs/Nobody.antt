-- Bays at which nobody stands.
-- Assumes nothing.
use Rattle.std.specs.Prelude.{◌≡◌, true, List, ℕ, ◌<◌, get_or}
use Rattle.words.specs.Sets.{mem}

-- the bays below b are empty, and have the carrier k, which there is not
pub record Nobody (b k : ℕ) (standing empty : List ℕ) : Type 0 where
  pub stands : (z : ℕ) → z < b → get_or standing z 0 ≡ k
  pub empties : (z : ℕ) → z < b → mem empty z ≡ true
