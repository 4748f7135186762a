-- Places in a list: what stands before a place, and that bays below k, none twice, are at most k.
-- Assumes nothing.
use mathlib.Core.Path.{◌≡◌, refl, sym, ap, ◌∙◌}
use mathlib.Core.Bool.{Bool, not}
use mathlib.Core.List.{List, [], ◌∷◌}
use Prim.Native.Nat.{ℕ, zero, suc, ◌≤◌, ◌<◌}
use native.Mathlib.Omega.{arith}
use lib.Dec.{eqb}
use lib.ListN.{length, get_or, take}
use lib.Seq.{get_or-take, length-take-le}
use borrow.Author.Tests.{ne_eqb, eqb-true, eqb-false, not-true}
use Rattle.paper.specs.Basics.{filter, count_from, place_of, In, Out, NoDup}
use Rattle.paper.proofs.Tests.{by_cases, not-both}
use Rattle.paper.proofs.Members.{In-nil, In-head, In-tail, In-cases, Out-head, Out-tail, out-cons, nothing-in-nil, filter-in, filter_passes, nodup-filter, count_low}
use Rattle.paper.proofs.Playing.{place_of-bay, place_of-there, bay-in}

-- what stands before place j, and the place of such a bay
pub before-in : (q : List ℕ) (l j : ℕ) → l < j → j ≤ length q → In (get_or q l 0) (take j q)
before-in q l j h k =
    let size : length (take j q) ≡ j = length-take-le j q k in
    rw (get_or-take j q l 0 h) at (bay-in (take j q) l (omega arith))

pub in-before : (q : List ℕ) (j b : ℕ) → j ≤ length q → In b (take j q) → (l : ℕ) × (l < j) × (get_or q l 0 ≡ b)
in-before q j b k i =
    let size : length (take j q) ≡ j = length-take-le j q k in
    let l : ℕ = place_of b (take j q) in
    let h : l < length (take j q) = place_of-there (take j q) b i in
    let low : l < j = omega arith in
    (l, low, sym (get_or-take j q l 0 low) ∙ place_of-bay (take j q) b i)

-- where none stands twice, a bay does not stand before its own place
pub once-before : (q : List ℕ) (j : ℕ) → NoDup q → j < length q → Out (get_or q j 0) (take j q)
once-before [] j o h = absurd (omega arith)
once-before (y ∷ q) zero o h = nothing-in-nil y
once-before (y ∷ q) (suc j) o h =
    out-cons (get_or q j 0) y (take j q)
    (λ e. not-both (rw e at (bay-in q j (omega arith))) o.0)
    (once-before q j o.1 (omega arith))

-- of counted numbers that pass, a lower one stands before
pub lower-before : (q : ℕ → Bool) (a k i z : ℕ) → In z (filter q (count_from a k)) → z < get_or (filter q (count_from a k)) i 0 → In z (take i (filter q (count_from a k)))
unfolding filter count_from
lower-before q a zero i z m h = In-nil z m
lower-before q a (suc k) zero z m h =
    by_cases (q a)
    (λ e. In-cases z a (filter q (count_from (suc a) k)) (rw e at m)
    (λ d. let l : z < a = rw e at h in absurd (omega arith))
    (λ j. let l : z < a = rw e at h in let g = count_low (suc a) k z (filter-in q (count_from (suc a) k) z j) in absurd (omega arith)))
    (λ e. lower-before q (suc a) k zero z (rw e at m) (rw e at h))
lower-before q a (suc k) (suc i) z m h =
    by_cases (q a)
    (λ e. rw e (In-cases z a (filter q (count_from (suc a) k)) (rw e at m)
    (λ d. rw d (In-head a _))
    (λ j. In-tail z a _ (lower-before q (suc a) k i z j (rw e at h)))))
    (λ e. rw e (lower-before q (suc a) k (suc i) z (rw e at m) (rw e at h)))

-- ## How many

-- all but k
others : ℕ → List ℕ → List ℕ
others k l = filter (λ y. not (eqb y k)) l

others-all : (k : ℕ) (l : List ℕ) → Out k l → others k l ≡ l
unfolding others filter
others-all k [] o = refl
others-all k (y ∷ l) o = rw (ne_eqb y k (λ e. Out-head k y l o (sym e))) (ap (λ (r : List ℕ). y ∷ r) (others-all k l (Out-tail k y l o)))

-- k is at most one of those that stand there once
others-less : (k : ℕ) (l : List ℕ) → NoDup l → length l ≤ suc (length (others k l))
unfolding others filter
others-less k [] o = omega arith
others-less k (y ∷ l) o =
    by_cases (eqb y k)
    (λ e. let all = ap length (others-all k l (rw (eqb-true y k e) at o.0)) in rw e (omega arith))
    (λ e. let ih = others-less k l o.1 in rw e (omega arith))

pub few-below : (k : ℕ) (l : List ℕ) → NoDup l → ((b : ℕ) → In b l → b < k) → length l ≤ k
unfolding others
few-below zero [] o f = omega arith
few-below zero (y ∷ l) o f = let h = f y (In-head y l) in absurd (omega arith)
few-below (suc k) l o f =
    let fewer = others-less k l o in
    let ih = few-below k (others k l) (nodup-filter (λ y. not (eqb y k)) l o)
    (λ b i.
    let low = f b (filter-in (λ y. not (eqb y k)) l b i) in
    let other = eqb-false b k (not-true (eqb b k) (filter_passes (λ y. not (eqb y k)) l b i)) in
    omega arith) in
    omega arith
