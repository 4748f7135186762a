-- Planning and planning on a small stack have one statement, and it fixes numbers, count and list: so the two answer alike and leave the same list, for every
-- input.
-- Assumes nothing.
use mathlib.Core.Path.{◌≡◌}
use mathlib.Core.List.{List}
use Prim.Native.Nat.{ℕ}
use Rattle.paper.specs.Order.{Order}
use Rattle.sejjekoru.specs.Statements.{PlanTells}
use Rattle.sejjekoru.proofs.Determined.{plan-determined}

-- what the one answers and leaves, and what the other does
pub lean-alike : (o : Order) (lent : List ℕ) (a lean : ℕ × ℕ × ℕ) (list lean-list : List ℕ)
    → PlanTells o lent a.0 a.1 a.2 list → PlanTells o lent lean.0 lean.1 lean.2 lean-list
    → (a ≡ lean) × (list ≡ lean-list)
lean-alike o lent = plan-determined o lent
