-- Twelve harder yards: swaps that bring, clear with moves, go on clearing and undo, ways home, held bays, the choice among the nearest bays, and
-- how many vacates filled a bay of three rails or more. Their answers come from implementations that were written independently of these
-- definitions and agree. Assumes nothing.
use mathlib.Core.Path.{◌≡◌, refl}
use mathlib.Core.List.{List, [], ◌∷◌, map}
use Prim.Native.Nat.{ℕ}
use Rattle.paper.specs.Yard.{Bay, Placement, crossing}
use Rattle.paper.specs.Order.{Order, order}
use Rattle.paper.specs.Docket.{stopped, room}
use Rattle.paper.specs.Answers.{Answer, accepted, refused, plan, plan_parked}
use Rattle.worked.proofs.Worked.{computing}

pub record Hard : Type 0 where
  pub order : Order
  pub lent : ℕ
  pub parked : ℕ
  pub answer : Answer

abbrev hard : ℕ → ℕ → List Bay → Placement → Placement → ℕ → Answer → Hard
hard n l e s g k a = record { order = order n e s g; lent = l; parked = k; answer = a }

abbrev pub yards : List Hard
yards =
    hard 6 5 (4 ∷ 3 ∷ 2 ∷ 1 ∷ 0 ∷ 3 ∷ 0 ∷ 5 ∷ 0 ∷ 1 ∷ []) (3 ∷ 2 ∷ 4 ∷ 0 ∷ []) (4 ∷ 0 ∷ 3 ∷ 1 ∷ []) 0
    (refused (stopped 0))
    ∷ hard 10 0 (1 ∷ 5 ∷ 9 ∷ 6 ∷ 4 ∷ 7 ∷ 0 ∷ 5 ∷ 1 ∷ 2 ∷ 1 ∷ 3 ∷ 8 ∷ 0 ∷ 8 ∷ 3 ∷ 8 ∷ 9 ∷ 5 ∷ 9 ∷ 7 ∷ 3 ∷ 3 ∷ 6 ∷ []) (0 ∷ 7 ∷ 8 ∷ 3 ∷ 4 ∷ 9 ∷ 5 ∷ 2 ∷ []) (8 ∷ 9 ∷ 5 ∷ 3 ∷ 1 ∷ 0 ∷ 6 ∷ 4 ∷ []) 0
    (refused (stopped 4))
    ∷ hard 8 65536 (7 ∷ 5 ∷ 1 ∷ 6 ∷ 6 ∷ 4 ∷ 0 ∷ 6 ∷ 5 ∷ 3 ∷ 7 ∷ 6 ∷ 5 ∷ 2 ∷ 7 ∷ 0 ∷ 6 ∷ 2 ∷ 4 ∷ 5 ∷ []) (1 ∷ 4 ∷ 0 ∷ 7 ∷ 6 ∷ 5 ∷ []) (7 ∷ 6 ∷ 1 ∷ 2 ∷ 4 ∷ 3 ∷ []) 0
    (accepted (crossing 4 6 2 ∷ crossing 0 1 6 ∷ crossing 5 5 3 ∷ crossing 3 7 5 ∷ crossing 0 6 7 ∷ crossing 1 4 6 ∷ crossing 1 6 1 ∷ crossing 2 0 6 ∷ crossing 2 6 4 ∷ crossing 1 1 6 ∷ crossing 1 6 0 ∷ crossing 2 4 6 ∷ crossing 2 6 1 ∷ crossing 1 0 6 ∷ crossing 0 7 0 ∷ crossing 3 5 4 ∷ crossing 4 2 5 ∷ crossing 4 5 7 ∷ crossing 3 4 5 ∷ crossing 3 5 2 ∷ crossing 4 7 5 ∷ crossing 0 0 7 ∷ crossing 4 5 4 ∷ []))
    ∷ hard 5 65536 (3 ∷ 2 ∷ 4 ∷ 1 ∷ 0 ∷ 3 ∷ 3 ∷ 1 ∷ []) (2 ∷ 4 ∷ []) (4 ∷ 3 ∷ []) 0
    (accepted (crossing 0 2 3 ∷ crossing 0 3 1 ∷ crossing 0 1 3 ∷ crossing 1 4 1 ∷ crossing 0 3 0 ∷ crossing 1 1 3 ∷ crossing 1 3 2 ∷ crossing 0 0 3 ∷ crossing 0 3 1 ∷ crossing 1 2 3 ∷ crossing 0 1 4 ∷ crossing 1 3 1 ∷ crossing 1 1 3 ∷ []))
    ∷ hard 8 65536 (2 ∷ 5 ∷ 6 ∷ 3 ∷ 2 ∷ 6 ∷ 7 ∷ 1 ∷ 5 ∷ 0 ∷ 4 ∷ 2 ∷ 0 ∷ 6 ∷ 4 ∷ 1 ∷ 5 ∷ 6 ∷ []) (5 ∷ 3 ∷ 4 ∷ 1 ∷ []) (6 ∷ 0 ∷ 3 ∷ 5 ∷ []) 0
    (accepted (crossing 0 5 6 ∷ crossing 0 6 0 ∷ crossing 1 3 6 ∷ crossing 1 6 2 ∷ crossing 0 0 6 ∷ crossing 0 6 3 ∷ crossing 1 2 6 ∷ crossing 1 6 0 ∷ crossing 0 3 6 ∷ crossing 2 4 2 ∷ crossing 2 2 4 ∷ crossing 0 6 2 ∷ crossing 0 2 5 ∷ crossing 2 4 2 ∷ crossing 2 2 6 ∷ crossing 0 5 2 ∷ crossing 2 6 3 ∷ crossing 0 2 6 ∷ crossing 3 1 4 ∷ crossing 3 4 2 ∷ crossing 3 2 5 ∷ []))
    ∷ hard 10 65536 (8 ∷ 1 ∷ 7 ∷ 6 ∷ 4 ∷ 2 ∷ 1 ∷ 6 ∷ 3 ∷ 6 ∷ 9 ∷ 8 ∷ 6 ∷ 0 ∷ 5 ∷ 2 ∷ 4 ∷ 0 ∷ 0 ∷ 2 ∷ 1 ∷ 4 ∷ []) (0 ∷ 6 ∷ 7 ∷ []) (9 ∷ 0 ∷ 4 ∷ []) 0
    (accepted (crossing 0 0 4 ∷ crossing 0 4 1 ∷ crossing 0 1 8 ∷ crossing 0 8 9 ∷ crossing 1 6 0 ∷ crossing 2 7 6 ∷ crossing 2 6 1 ∷ crossing 1 0 6 ∷ crossing 1 6 3 ∷ crossing 2 1 6 ∷ crossing 2 6 0 ∷ crossing 1 3 6 ∷ crossing 2 0 4 ∷ crossing 1 6 0 ∷ []))
    ∷ hard 5 65536 (3 ∷ 2 ∷ 1 ∷ 2 ∷ 1 ∷ 0 ∷ 4 ∷ 3 ∷ 1 ∷ 3 ∷ []) (2 ∷ 4 ∷ 3 ∷ []) (4 ∷ 0 ∷ 3 ∷ []) 1
    (accepted (crossing 2 3 1 ∷ crossing 0 2 3 ∷ crossing 2 1 0 ∷ crossing 0 3 1 ∷ crossing 1 4 3 ∷ crossing 1 3 2 ∷ crossing 0 1 3 ∷ crossing 0 3 4 ∷ crossing 1 2 3 ∷ crossing 2 0 1 ∷ crossing 2 1 0 ∷ crossing 1 3 1 ∷ crossing 1 1 2 ∷ crossing 2 0 1 ∷ crossing 2 1 3 ∷ crossing 1 2 1 ∷ crossing 1 1 0 ∷ crossing 2 3 1 ∷ crossing 2 1 3 ∷ []))
    ∷ hard 10 65536 (2 ∷ 7 ∷ 0 ∷ 4 ∷ 5 ∷ 1 ∷ 5 ∷ 2 ∷ 4 ∷ 5 ∷ 9 ∷ 6 ∷ 8 ∷ 2 ∷ 8 ∷ 4 ∷ 3 ∷ 1 ∷ 9 ∷ 8 ∷ 3 ∷ 2 ∷ 5 ∷ 3 ∷ 6 ∷ 1 ∷ 5 ∷ 0 ∷ 2 ∷ 1 ∷ []) (3 ∷ 2 ∷ 5 ∷ 7 ∷ 4 ∷ 6 ∷ []) (0 ∷ 1 ∷ 3 ∷ 9 ∷ 4 ∷ 5 ∷ []) 1
    (accepted (crossing 2 5 0 ∷ crossing 0 3 5 ∷ crossing 4 4 8 ∷ crossing 2 0 4 ∷ crossing 0 5 0 ∷ crossing 1 2 1 ∷ crossing 2 4 5 ∷ crossing 2 5 3 ∷ crossing 3 7 2 ∷ crossing 4 8 9 ∷ crossing 3 2 8 ∷ crossing 3 8 2 ∷ crossing 4 9 8 ∷ crossing 4 8 4 ∷ crossing 3 2 8 ∷ crossing 3 8 9 ∷ crossing 4 4 8 ∷ crossing 4 8 4 ∷ crossing 1 1 2 ∷ crossing 5 6 1 ∷ crossing 5 1 5 ∷ crossing 1 2 1 ∷ crossing 1 1 6 ∷ crossing 5 5 1 ∷ crossing 5 1 5 ∷ crossing 1 6 1 ∷ []))
    ∷ hard 8 65536 (6 ∷ 1 ∷ 0 ∷ 7 ∷ 7 ∷ 6 ∷ 1 ∷ 0 ∷ 4 ∷ 2 ∷ 0 ∷ 3 ∷ 1 ∷ 7 ∷ 1 ∷ 3 ∷ 2 ∷ 3 ∷ 6 ∷ 4 ∷ 7 ∷ 5 ∷ 4 ∷ 3 ∷ 0 ∷ 5 ∷ []) (3 ∷ 7 ∷ 4 ∷ 2 ∷ []) (6 ∷ 2 ∷ 3 ∷ 5 ∷ []) 1
    (accepted (crossing 0 3 1 ∷ crossing 0 1 6 ∷ crossing 1 7 0 ∷ crossing 1 0 3 ∷ crossing 1 3 0 ∷ crossing 3 2 3 ∷ crossing 3 3 1 ∷ crossing 1 0 3 ∷ crossing 1 3 2 ∷ crossing 3 1 3 ∷ crossing 3 3 0 ∷ crossing 2 4 3 ∷ crossing 3 0 5 ∷ []))
    ∷ hard 9 65536 (0 ∷ 5 ∷ 4 ∷ 6 ∷ 7 ∷ 0 ∷ 8 ∷ 0 ∷ 6 ∷ 3 ∷ 6 ∷ 0 ∷ 1 ∷ 2 ∷ 2 ∷ 0 ∷ 4 ∷ 3 ∷ 4 ∷ 8 ∷ 8 ∷ 7 ∷ 5 ∷ 3 ∷ []) (6 ∷ 2 ∷ 3 ∷ 1 ∷ 7 ∷ 0 ∷ []) (2 ∷ 8 ∷ 1 ∷ 7 ∷ 6 ∷ 4 ∷ []) 8
    (accepted (crossing 5 0 5 ∷ crossing 0 6 0 ∷ crossing 0 0 6 ∷ crossing 1 2 0 ∷ crossing 1 0 8 ∷ crossing 0 6 0 ∷ crossing 0 0 2 ∷ crossing 1 8 0 ∷ crossing 1 0 8 ∷ crossing 5 5 0 ∷ crossing 2 3 5 ∷ crossing 5 0 6 ∷ crossing 2 5 0 ∷ crossing 5 6 3 ∷ crossing 2 0 5 ∷ crossing 0 2 0 ∷ crossing 0 0 6 ∷ crossing 2 5 0 ∷ crossing 2 0 2 ∷ crossing 0 6 0 ∷ crossing 5 3 6 ∷ crossing 0 0 5 ∷ crossing 2 2 0 ∷ crossing 3 1 2 ∷ crossing 0 5 3 ∷ crossing 5 6 4 ∷ crossing 2 0 5 ∷ crossing 3 2 0 ∷ crossing 3 0 6 ∷ crossing 2 5 0 ∷ crossing 2 0 2 ∷ crossing 3 6 0 ∷ crossing 5 4 6 ∷ crossing 0 3 5 ∷ crossing 2 2 1 ∷ crossing 3 0 2 ∷ crossing 0 5 0 ∷ crossing 5 6 3 ∷ crossing 0 0 5 ∷ crossing 3 2 0 ∷ crossing 3 0 6 ∷ crossing 0 5 0 ∷ crossing 0 0 2 ∷ crossing 3 6 0 ∷ crossing 5 3 6 ∷ crossing 5 6 3 ∷ crossing 3 0 5 ∷ crossing 4 7 0 ∷ crossing 4 0 6 ∷ crossing 3 5 0 ∷ crossing 3 0 7 ∷ crossing 4 6 0 ∷ crossing 5 3 6 ∷ crossing 5 6 3 ∷ crossing 4 0 6 ∷ crossing 5 3 4 ∷ []))
    ∷ hard 8 65536 (5 ∷ 2 ∷ 5 ∷ 6 ∷ 5 ∷ 4 ∷ 3 ∷ 4 ∷ 3 ∷ 7 ∷ 7 ∷ 5 ∷ 6 ∷ 4 ∷ 0 ∷ 5 ∷ 2 ∷ 3 ∷ 0 ∷ 7 ∷ 0 ∷ 4 ∷ 1 ∷ 7 ∷ 0 ∷ 2 ∷ 4 ∷ 2 ∷ []) (1 ∷ 7 ∷ 4 ∷ 3 ∷ 0 ∷ 2 ∷ []) (0 ∷ 2 ∷ 6 ∷ 3 ∷ 7 ∷ 5 ∷ []) 3
    (accepted (crossing 1 7 5 ∷ crossing 0 1 7 ∷ crossing 2 4 6 ∷ crossing 4 0 4 ∷ crossing 0 7 0 ∷ crossing 3 3 7 ∷ crossing 5 2 3 ∷ crossing 1 5 2 ∷ crossing 4 4 5 ∷ crossing 5 3 4 ∷ crossing 3 7 3 ∷ crossing 4 5 7 ∷ crossing 5 4 5 ∷ []))
    ∷ hard 8 5 (7 ∷ 4 ∷ 4 ∷ 6 ∷ 7 ∷ 3 ∷ 5 ∷ 3 ∷ 7 ∷ 0 ∷ 2 ∷ 3 ∷ 6 ∷ 2 ∷ 3 ∷ 1 ∷ 0 ∷ 6 ∷ 4 ∷ 0 ∷ 5 ∷ 4 ∷ 2 ∷ 5 ∷ 4 ∷ 2 ∷ []) (1 ∷ 5 ∷ 4 ∷ []) (3 ∷ 7 ∷ 1 ∷ []) 0
    (refused (room 20))
    ∷ []

pub all-computed : map (λ y. plan y.order y.lent) yards ≡ map (λ y. y.answer) yards
unfolding computing
all-computed = refl

pub all-counted : map (λ y. plan_parked y.order y.lent) yards ≡ map (λ y. y.parked) yards
unfolding computing
all-counted = refl
