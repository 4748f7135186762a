-- Those who stand each at a place of its own are no more than the places.
use Rattle.std.specs.Prelude.{if◌then◌else◌}
use mathlib.Core.Path.{◌≡◌}
use Prim.Native.Nat.{ℕ, zero, suc, ◌<◌, ◌≤◌, ◌-◌}
use native.Mathlib.Omega.{arith}
use lib.Dec.{ltb}
use borrow.Author.Tests.{ltb-true, ltb-false}
use Rattle.paper.proofs.Tests.{by_cases}

-- the numbers above t come one lower
closed-up : ℕ → ℕ → ℕ
closed-up t x = if ltb t x then x - 1 else x

by-closed : {P : Type 0} (t x : ℕ) → (t < x → suc (closed-up t x) ≡ x → P) → (x ≤ t → closed-up t x ≡ x → P) → P
unfolding closed-up
by-closed t x f g =
    by_cases (ltb t x)
    (λ e. let l = ltb-true t x e in f l (rw e (omega arith)))
    (λ e. g (ltb-false t x e) (rw e))

one-too-many : (m : ℕ) (h : (i : ℕ) → i ≤ m → ℕ) → ((i : ℕ) (a : i ≤ m) → h i a < m)
    → ((i j : ℕ) (a : i ≤ m) (b : j ≤ m) → h i a ≡ h j b → i ≡ j) → ⊥
one-too-many zero h low once = let z = low 0 (omega arith) in omega arith
one-too-many (suc m) h low once =
    let last : suc m ≤ suc m = omega arith in
    let within : (i : ℕ) → i ≤ m → i ≤ suc m = λ i a. omega arith in
    let t = h (suc m) last in
    let other : (i : ℕ) (a : i ≤ m) → h i (within i a) ≡ t → ⊥ =
    λ i a e. let z = once i (suc m) (within i a) last e in omega arith in
    one-too-many m (λ i a. closed-up t (h i (within i a)))
    (λ i a.
    let hi = low i (within i a) in
    let ht = low (suc m) last in
    let ne = other i a in
    by-closed t (h i (within i a)) (λ l e. omega arith) (λ l e. omega arith))
    (λ i j a b e.
    let ne = other i a in
    let me = other j b in
    once i j (within i a) (within j b)
    (by-closed t (h i (within i a))
    (λ l x. by-closed t (h j (within j b)) (λ k y. omega arith) (λ k y. absurd (omega arith)))
    (λ l x. by-closed t (h j (within j b)) (λ k y. absurd (omega arith)) (λ k y. omega arith))))

-- k of them, the i-th at place h i, below n
pub no_more : (k n : ℕ) (h : (i : ℕ) → i < k → ℕ) → ((i : ℕ) (a : i < k) → h i a < n)
    → ((i j : ℕ) (a : i < k) (b : j < k) → h i a ≡ h j b → i ≡ j) → k ≤ n
no_more k n h low once =
    by_cases (ltb n k)
    (λ e.
    let l = ltb-true n k e in
    let within : (i : ℕ) → i ≤ n → i < k = λ i a. omega arith in
    absurd (one-too-many n (λ i a. h i (within i a)) (λ i a. low i (within i a)) (λ i j a b z. once i j (within i a) (within j b) z)))
    (λ e. ltb-false n k e)
