-- A pass over the two lists: the equal ones passed, with those to come, are the whole.
use Rattle.std.specs.Prelude.{if◌then◌else◌}
use mathlib.Core.Path.{◌≡◌, refl, ◌∙◌, ap, ap₂}
use mathlib.Core.List.{List, [], ◌∷◌}
use Prim.Native.Nat.{ℕ, zero, suc, ◌≤◌, ◌<◌, ◌+◌, min}
use native.Mathlib.Omega.{arith}
use native.Mathlib.Numerals.{add-one}
use borrow.Author.Tests.{eq-eqb, ne_eqb, leb-true, leb-false}
use lib.Dec.{eqb, leb}
use lib.ListN.{length, get_or, drop, drop_of_length-le}
use lib.Seq.{drop-cons}
use Rattle.paper.proofs.Tests.{by_cases}
use Rattle.leading.specs.Leading.{equal_leading}

abbrev pub Passing : List ℕ → List ℕ → ℕ → Type 0
Passing first second i = equal_leading first second ≡ i + equal_leading (drop i first) (drop i second)

leading-cons : (x y : ℕ) (xs ys : List ℕ) → equal_leading (x ∷ xs) (y ∷ ys) ≡ (if eqb x y then suc (equal_leading xs ys) else zero)
unfolding equal_leading
leading-cons x y xs ys = refl

leading-none : (xs : List ℕ) → equal_leading xs [] ≡ 0
unfolding equal_leading
leading-none [] = refl
leading-none (x ∷ xs) = refl

module _ (first second : List ℕ) (i : ℕ) (p : Passing first second i) where
  module _ (more : i < length first) (more' : i < length second) where
    turn : equal_leading (drop i first) (drop i second) ≡ (if eqb (get_or first i 0) (get_or second i 0) then suc (equal_leading (drop (i + 1) first) (drop (i + 1) second)) else zero)
    turn =
        ap₂ equal_leading (drop-cons first i 0 more) (drop-cons second i 0 more')
        ∙ leading-cons (get_or first i 0) (get_or second i 0) (drop (suc i) first) (drop (suc i) second)
        ∙ rw add-one

    pub passing-stops : (get_or first i 0 ≡ get_or second i 0 → ⊥) → i ≡ equal_leading first second
    passing-stops d =
        let t : equal_leading (drop i first) (drop i second) ≡ 0 = turn ∙ rw (ne_eqb (get_or first i 0) (get_or second i 0) d) in
        omega (arith, t, p)

    pub passing-on : get_or first i 0 ≡ get_or second i 0 → Passing first second (i + 1)
    passing-on e =
        let t : equal_leading (drop i first) (drop i second) ≡ suc (equal_leading (drop (i + 1) first) (drop (i + 1) second)) = turn ∙ rw (eq-eqb (get_or first i 0) (get_or second i 0) e) in
        omega (arith, t, p)

  pub passing-ends : min (length first) (length second) ≤ i → i ≡ equal_leading first second
  unfolding equal_leading
  passing-ends h =
      by_cases (leb (length first) i)
      (λ l. let t : equal_leading (drop i first) (drop i second) ≡ 0 = rw (drop_of_length-le first (leb-true _ _ l)) in omega (arith, t, p))
      (λ l.
      let f : i < length first = leb-false _ _ l in
      let s : length second ≤ i = omega arith in
      let t : equal_leading (drop i first) (drop i second) ≡ 0 = ap (equal_leading (drop i first)) (drop_of_length-le second s) ∙ leading-none (drop i first) in
      omega (arith, t, p))
