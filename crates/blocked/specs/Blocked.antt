-- A blocked junction: so many of its sides are full dead ends that two carriers cannot pass each other there, wherever the others are moved.
-- Assumes nothing.
use Rattle.std.specs.Prelude.{◌≡◌, Bool, true}
use Rattle.paper.specs.Basics.{up_to, In, Out}
use Rattle.paper.specs.Yard.{Bay, Yard, Placement, joined}

-- Junction v is blocked at p for two carriers at u and w: what the empty bays and the two reach without passing v has at most two
-- neighbours of v. Behind its other neighbours every bay is occupied, and the only way out is over v.
pub record Blocked (Y : Yard) (p : Placement) (u w v : Bay) : Type 0 where
  -- bays that hold all that is reached; of v itself nothing is asked
  pub reached : Bay → Bool
  -- each empty bay is among them
  pub empties : (b : Bay) → In b (up_to Y.bays) → Out b p → (b ≡ v → ⊥) → reached b ≡ true
  -- the bays of the two
  pub first : (u ≡ v → ⊥) → reached u ≡ true
  pub second : (w ≡ v → ⊥) → reached w ≡ true
  -- and with a bay all that rails join to it
  pub closed : (a b : Bay) → reached a ≡ true → joined Y a b ≡ true → (b ≡ v → ⊥) → reached b ≡ true
  -- of three different neighbours of v one is not among them
  pub few : (x y z : Bay) → (x ≡ y → ⊥) → (x ≡ z → ⊥) → (y ≡ z → ⊥)
      → joined Y v x ≡ true → joined Y v y ≡ true → joined Y v z ≡ true
      → reached x ≡ true → reached y ≡ true → reached z ≡ true → ⊥
