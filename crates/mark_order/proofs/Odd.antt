-- All marks are read one after the other: what was seen and what is left to look at tell whether one is neither 0 nor 1.
use mathlib.Core.Path.{◌≡◌, refl, sym, ◌∙◌, ap}
use mathlib.Core.Bool.{Bool, true, false, not, ◌||◌}
use mathlib.Core.List.{List}
use Prim.Native.Nat.{ℕ, ◌≤◌, ◌<◌, ◌+◌}
use native.Mathlib.Omega.{arith}
use native.Mathlib.Numerals.{add-one}
use borrow.Author.Tests.{eq-eqb, ne_eqb, eqb-false, ltb-true, ltb-false}
use lib.Dec.{eqb, ltb}
use lib.ListN.{length, get_or, drop, drop_of_length-le}
use lib.Seq.{drop-cons}
use Rattle.paper.specs.Basics.{◌or◌, any}
use Rattle.paper.proofs.Tests.{by_cases, or_left, or_right, or-neither}

-- a byte above 1 is neither 0 nor 1, and no other
abbrev pub odd : ℕ → Bool
odd m = not (eqb m 0 or eqb m 1)

pub odd-high : (m : ℕ) → 1 < m → odd m ≡ true
odd-high m h = ap not (or-neither _ _ (ne_eqb m 0 (omega arith)) (ne_eqb m 1 (omega arith)))

pub odd_low : (m : ℕ) → m ≤ 1 → odd m ≡ false
odd_low m h =
    by_cases (eqb m 0)
    (λ e. ap not (or_left _ _ e))
    (λ e. ap not (or_right _ _ (eq-eqb m 1 (let n = eqb-false m 0 e in omega arith))))

-- a mark was odd among those seen, or is one from place i on
abbrev pub OddFrom : List ℕ → Bool → ℕ → Type 0
OddFrom marks seen i = any odd marks ≡ seen or any odd (drop i marks)

pub odd-start : (marks : List ℕ) → OddFrom marks false 0
unfolding ◌or◌
odd-start marks = refl

pub odd-on : (marks : List ℕ) (seen : Bool) (i : ℕ) → OddFrom marks seen i → i < length marks → OddFrom marks (seen || ltb 1 (get_or marks i 0)) (i + 1)
unfolding any ◌or◌
odd-on marks true i v h = v
odd-on marks false i v h =
    v ∙ rw (drop-cons marks i 0 h, add-one i)
    (by_cases (ltb 1 (get_or marks i 0))
    (λ e. rw (e, odd-high (get_or marks i 0) (ltb-true 1 (get_or marks i 0) e)))
    (λ e. rw (e, odd_low (get_or marks i 0) (ltb-false 1 (get_or marks i 0) e))))

pub odd-end : (marks : List ℕ) (seen : Bool) (i : ℕ) → OddFrom marks seen i → length marks ≤ i → seen ≡ any odd marks
unfolding any ◌or◌
odd-end marks true i v h = sym v
odd-end marks false i v h = sym (v ∙ rw (drop_of_length-le marks h))
