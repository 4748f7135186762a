-- The differences add up to the difference of the lengths: each crossing is counted once, with its own carrier, and sums may be taken in any order.
use mathlib.Core.Path.{◌≡◌, refl, sym, ◌∙◌, ap, ap₂}
use mathlib.Core.List.{List, [], ◌∷◌, map}
use mathlib.Core.Option.{none}
use Prim.Native.Nat.{ℕ, zero, suc, ◌+◌, ◌<◌, ◌≤◌}
use native.Mathlib.Omega.{arith}
use borrow.Author.Tests.{eqb-true, eqb-false, ne_eqb, leb-false}
use lib.Dec.{eqb, leb}
use lib.IntN.{ℤ, pos, neg_ℤ, ◌+ℤ◌, ◌-ℤ◌, +ℤ_assoc, +ℤ_comm, neg_ℤ-+ℤ}
use lib.ListN.{length}
use Rattle.paper.specs.Basics.{count_from, up_to, find}
use Rattle.paper.specs.Limits.{most_carriers}
use Rattle.paper.specs.Yard.{Crossing, crossings, unpack}
use Rattle.paper.specs.Dependence.{count_of}
use Rattle.paper.proofs.Tests.{by_cases, never-some}
use Rattle.comparing.specs.Comparing.{carrier_of, first_above, differences}

-- all of them together
unfoldable pub sum_of : List ℤ → ℤ
sum_of [] = pos 0
sum_of (z ∷ zs) = z +ℤ sum_of zs

-- ## Sums of differences

middle-four : (p q r s : ℤ) → (p +ℤ q) +ℤ (r +ℤ s) ≡ (p +ℤ r) +ℤ (q +ℤ s)
middle-four p q r s =
    +ℤ_assoc p q (r +ℤ s)
    ∙ ap (λ z. p +ℤ z) (sym (+ℤ_assoc q r s) ∙ ap (λ z. z +ℤ s) (+ℤ_comm q r) ∙ +ℤ_assoc r q s)
    ∙ sym (+ℤ_assoc p r (q +ℤ s))

together : (a b m n : ℕ) → (pos a -ℤ pos b) +ℤ (pos m -ℤ pos n) ≡ pos (a + m) -ℤ pos (b + n)
together a b m n = middle-four (pos a) (neg_ℤ (pos b)) (pos m) (neg_ℤ (pos n)) ∙ ap (λ z. pos (a + m) +ℤ z) (sym (neg_ℤ-+ℤ (pos b) (pos n)))

-- the sum of f over a list
total : (ℕ → ℕ) → List ℕ → ℕ
total f [] = 0
total f (c ∷ l) = f c + total f l

sum_less : (f g : ℕ → ℕ) (l : List ℕ) → sum_of (map (λ c. pos (f c) -ℤ pos (g c)) l) ≡ pos (total f l) -ℤ pos (total g l)
unfolding sum_of total
sum_less f g [] = refl
sum_less f g (c ∷ l) = ap (λ z. (pos (f c) -ℤ pos (g c)) +ℤ z) (sum_less f g l) ∙ together (f c) (g c) (total f l) (total g l)

-- ## Each crossing is counted once

nothing-counted : (l : List ℕ) → total (λ c. count_of c []) l ≡ 0
unfolding total count_of
nothing-counted [] = refl
nothing-counted (c ∷ l) = let ih = nothing-counted l in omega arith

lower-uncounted : (a k : ℕ) (x : Crossing) (xs : List Crossing) → x.carrier < a
    → total (λ c. count_of c (x ∷ xs)) (count_from a k) ≡ total (λ c. count_of c xs) (count_from a k)
unfolding total count_of count_from
lower-uncounted a zero x xs h = refl
lower-uncounted a (suc k) x xs h =
    rw (ne_eqb x.carrier a (λ e. absurd (omega arith))) (ap (λ s. count_of a xs + s) (lower-uncounted (suc a) k x xs (omega arith)))

counted-once : (a k : ℕ) (x : Crossing) (xs : List Crossing) → a ≤ x.carrier → x.carrier < a + k
    → total (λ c. count_of c (x ∷ xs)) (count_from a k) ≡ suc (total (λ c. count_of c xs) (count_from a k))
unfolding total count_of count_from
counted-once a zero x xs l h = absurd (omega arith)
counted-once a (suc k) x xs l h =
    by_cases (eqb x.carrier a)
    (λ e.
    let s = eqb-true x.carrier a e in
    let r = lower-uncounted (suc a) k x xs (omega arith) in
    rw e (omega arith))
    (λ e.
    let s = eqb-false x.carrier a e in
    let r = counted-once (suc a) k x xs (omega arith) (omega arith) in
    rw e (omega arith))

-- where no carrier number is above 253, the first is not, and none of the rest is
pub none_above : (w : ℕ) (list : List ℕ) → first_above (w ∷ list) ≡ none → (carrier_of w < most_carriers) × (first_above list ≡ none)
unfolding find
none_above w list =
    by_cases (leb most_carriers (carrier_of w))
    (λ e. rw e (λ h. never-some (carrier_of w) (sym h)))
    (λ e. rw e (λ h. (leb-false _ _ e, h)))

all-counted : (list : List ℕ) → first_above list ≡ none → total (λ c. count_of c (crossings list)) (up_to most_carriers) ≡ length list
all-counted [] h = nothing-counted (up_to most_carriers)
all-counted (w ∷ list) h =
    let k = none_above w list h in
    counted-once 0 most_carriers (unpack w) (crossings list) (omega arith) (omega (arith, k.0)) ∙ ap suc (all-counted list k.1)

-- The differences add up to the difference of the lengths.
pub differences-sum : (first second : List ℕ) → first_above first ≡ none → first_above second ≡ none
    → sum_of (differences first second) ≡ pos (length second) -ℤ pos (length first)
differences-sum first second h k =
    sum_less (λ c. count_of c (crossings second)) (λ c. count_of c (crossings first)) (up_to most_carriers)
    ∙ ap₂ (λ m n. pos m -ℤ pos n) (all-counted second k) (all-counted first h)
