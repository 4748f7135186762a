-- Working room that is cleared is as shortening asks for it: what is taken of it is cleared.
use mathlib.Core.Path.{◌≡◌, refl, ap}
use mathlib.Core.List.{◌∷◌}
use Prim.Native.Nat.{ℕ, zero, suc, ◌≤◌}
use native.Mathlib.Omega.{arith}
use lib.ListN.{take, replicate}

pub take-fresh : (v k n : ℕ) → k ≤ n → take k (replicate n v) ≡ replicate k v
take-fresh v zero n h = refl
take-fresh v (suc k) zero h = absurd (omega arith)
take-fresh v (suc k) (suc n) h = ap (λ l. v ∷ l) (take-fresh v k n (omega arith))
