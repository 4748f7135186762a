-- What is made, one after the other: its crossings follow each other, and its counts add up.
-- Assumes nothing.
use mathlib.Core.Path.{◌≡◌, refl, ap₂}
use mathlib.Core.List.{List, [], append-nil, append_assoc}
use Prim.Native.Nat.{ℕ}
use native.Mathlib.Omega.{arith}
use Rattle.paper.specs.Yard.{Crossing}
use Rattle.paper.specs.Procedure.{Made, only, together}

-- the same crossings and the same count
pub same-made : {xs ys : List Crossing} {j k : ℕ} → xs ≡ ys → j ≡ k → ◌≡◌ {A = Made} (record { moves = xs; parked = j }) (record { moves = ys; parked = k })
same-made e f = ap₂ (λ (xs : List Crossing) (k : ℕ). record { moves = xs; parked = k }) e f

pub together-assoc : (a b c : Made) → together (together a b) c ≡ together a (together b c)
together-assoc a b c = same-made (append_assoc a.moves b.moves c.moves) (omega arith)

pub together-none : (a : Made) → together a (only []) ≡ a
together-none a = same-made (append-nil a.moves) (omega arith)

pub none-together : (a : Made) → together (only []) a ≡ a
none-together a = same-made refl (omega arith)
