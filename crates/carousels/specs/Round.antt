-- What it means that a yard is one ring: its bays have an order around it.
-- Assumes nothing.
use Rattle.std.specs.Prelude.{true, ◌⊎◌, ◌≡◌, ℕ, suc, ◌<◌}
use Rattle.paper.specs.Yard.{Bay, Yard, joined}

-- j comes next after i, going round n places
abbrev pub Next : ℕ → ℕ → ℕ → Type 0
Next n i j = (j ≡ suc i) ⊎ ((suc i ≡ n) × (j ≡ 0))

-- The bays of a yard in their order around it: `bay i` stands at place i, and bays are joined exactly if their places are next to each
-- other.
pub record Round (Y : Yard) : Type 0 where
  pub place : Bay → ℕ
  pub bay : ℕ → Bay
  pub place_low : (b : Bay) → b < Y.bays → place b < Y.bays
  pub bay_low : (i : ℕ) → i < Y.bays → bay i < Y.bays
  pub place_bay : (i : ℕ) → i < Y.bays → place (bay i) ≡ i
  pub bay_place : (b : Bay) → b < Y.bays → bay (place b) ≡ b
  pub beside : (a b : Bay) → a < Y.bays → b < Y.bays → joined Y a b ≡ true
      → Next Y.bays (place a) (place b) ⊎ Next Y.bays (place b) (place a)
  pub joins : (a b : Bay) → a < Y.bays → b < Y.bays → Next Y.bays (place a) (place b) → joined Y a b ≡ true
