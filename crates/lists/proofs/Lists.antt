-- Laws on lists that several crates cite, and that speak of nothing but lists.
-- Assumes nothing.
use mathlib.Core.Path.{◌≡◌, refl, ◌∙◌, ap}
use mathlib.Core.List.{List, [], ◌∷◌, ◌++◌}
use Prim.Native.Nat.{ℕ, zero, suc, ◌≤◌, ◌+◌, ◌-◌}
use native.Mathlib.Omega.{arith}
use lib.ListN.{length, get_or, set, take, drop, replicate, length-drop}
use lib.Seq.{sets, take_all}

-- ## Tables with no entry above a number

pub low_zeros : (k j : ℕ) → get_or (replicate k 0) j 0 ≤ 0
low_zeros zero j = omega arith
low_zeros (suc k) zero = omega arith
low_zeros (suc k) (suc j) = low_zeros k j

-- an entry is put
pub low-set : (l : List ℕ) (k v a b : ℕ) → ((j : ℕ) → get_or l j 0 ≤ a) → a ≤ b → v ≤ b → (j : ℕ) → get_or (set l k v) j 0 ≤ b
low-set [] k v a b low more h j = omega (arith, low j)
low-set (x ∷ l) zero v a b low more h zero = h
low-set (x ∷ l) zero v a b low more h (suc j) = omega (arith, low (suc j))
low-set (x ∷ l) (suc k) v a b low more h zero = omega (arith, low zero)
low-set (x ∷ l) (suc k) v a b low more h (suc j) = low-set l k v a b (λ i. low (suc i)) more h j

-- ## Parts of lists

pub no_length : {A : Type 0} (l : List A) → length l ≡ 0 → l ≡ []
no_length [] h = refl
no_length (x ∷ l) h = absurd (omega arith)

-- what is lent from a place on
pub to_the_end : (l : List ℕ) (from : ℕ) → take (length l - from) (drop from l) ≡ drop from l
to_the_end l from = take_all (length l - from) (drop from l) (rw length-drop (omega arith))

-- Two stores, the second where the first ended, are one store of both lists.
pub sets-append : (l : List ℕ) (i : ℕ) (a b : List ℕ) → sets l i (a ++ b) ≡ sets (sets l i a) (i + length a) b
sets-append l i [] b = ap (λ j. sets l j b) (omega arith)
sets-append l i (x ∷ a) b = sets-append (set l i x) (suc i) a b ∙ ap (λ j. sets (sets (set l i x) (suc i) a) j b) (omega arith)
