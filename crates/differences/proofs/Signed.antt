-- The difference of two 32-bit numbers fits a signed number of 64 bits, and is read back as it was.
use mathlib.Core.Path.{◌≡◌, ◌∙◌, ap₂}
use Prim.Native.Nat.{ℕ, zero, suc, ◌-◌, ◌<◌, ◌^◌}
use native.Mathlib.Omega.{arith}
use mathlib.Core.Bool.{Bool, true, false, cond}
use lib.Dec.{ltb}
use lib.IntN.{pos, negsuc, ◌-ℤ◌}
use lib.Signed.{mag}
use mir.Syntax.{w64}
use mir.Val.{SFits, to_z, of_z}
use mir.ValLaws.{to_z_pos, to_z-of_z}

mag-cond : (b : Bool) (m n k : ℕ) → m < k → n < k → mag (cond b (negsuc m) (pos n)) < k
mag-cond true m n k p q = p
mag-cond false m n k p q = q

mag_less : (a b : ℕ) → a < 2 ^ 32 → b < 2 ^ 32 → mag (pos a -ℤ pos b) < 2 ^ 63
mag_less a zero p q = omega arith
mag_less a (suc b) p q = mag-cond (ltb a (suc b)) (suc b - suc a) (a - suc b) (2 ^ 63) (omega arith) (omega arith)

module _ (a b : ℕ) (p : a < 2 ^ 32) (q : b < 2 ^ 32) where
  pub read : to_z w64 a -ℤ to_z w64 b ≡ pos a -ℤ pos b
  read = ap₂ (λ x y. x -ℤ y) (to_z_pos w64 a (omega arith)) (to_z_pos w64 b (omega arith))

  pub less-fits : SFits w64 (to_z w64 a -ℤ to_z w64 b)
  less-fits = record { sfits = rw read (mag_less a b p q) }

  pub less-read : to_z w64 (of_z w64 (to_z w64 a -ℤ to_z w64 b)) ≡ pos a -ℤ pos b
  less-read = to_z-of_z w64 (to_z w64 a -ℤ to_z w64 b) less-fits ∙ read
