-- Any two answers that the placement's statement allows are equal: number, value, and what stands in the lent list.
use mathlib.Core.Path.{◌≡◌, sym, ◌∙◌}
use mathlib.Core.List.{List}
use Prim.Native.Nat.{ℕ}
use Rattle.paper.specs.Yard.{Bay}
use Rattle.paper.specs.Order.{Order}
use Rattle.sejjekoru.specs.Standing.{PlacementTells}

module _ (o : Order) (plan marks : List ℕ) (at : List Bay) where
  pub placement-determined : (number number' value value' : ℕ) (left left' : List Bay) → PlacementTells o plan marks at number value left
      → PlacementTells o plan marks at number' value' left' → (number ≡ number') × (value ≡ value') × (left ≡ left')
  placement-determined number number' value value' left left' s t = (
    s.tells.numbered ∙ sym t.tells.numbered,
    s.tells.valued ∙ sym t.tells.valued,
    s.leaves ∙ sym t.leaves,
  )
