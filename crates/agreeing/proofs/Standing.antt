-- A placement in its list of places: the places beyond the carriers stay 0 as the carriers move.
use mathlib.Core.Path.{◌≡◌, refl, sym, ◌∙◌, ap}
use mathlib.Core.List.{List, [], ◌∷◌, ◌++◌}
use Prim.Native.Nat.{ℕ, zero, suc, ◌<◌, ◌-◌}
use native.Mathlib.Omega.{arith}
use lib.ListN.{length, drop, replicate, length-set, length-map}
use Rattle.paper.specs.Limits.{most_bays}
use Rattle.paper.specs.Yard.{Placement, Crossing, crossings, named, after, move}
use Rattle.paper.specs.Dependence.{done, done_of, placement_by}
use Rattle.paper.specs.OnePass.{Fits}
use Rattle.paper.proofs.Tests.{by_cases}
use Rattle.paper.proofs.Packing.{named-is}
use Rattle.bills.specs.Billing.{places}
use Rattle.bills.proofs.Stepping.{places-move}
use Rattle.agreeing.specs.Statements.{Fit}

drop-zeros : (k m : ℕ) → drop {A = ℕ} k (replicate m 0) ≡ replicate (m - k) 0
drop-zeros zero m = let e : m ≡ m - 0 = omega arith in ap (λ (j : ℕ). replicate {A = ℕ} j 0) e
drop-zeros (suc k) zero = let e : 0 ≡ 0 - suc k = omega arith in ap (λ (j : ℕ). replicate {A = ℕ} j 0) e
drop-zeros (suc k) (suc m) = let e : m - k ≡ suc m - suc k = omega arith in drop-zeros k m ∙ ap (λ (j : ℕ). replicate {A = ℕ} j 0) e

-- a placement over zeros
pub over_zeros : (p : Placement) (at : List ℕ) → at ≡ replicate most_bays 0 → p ++ drop (length p) at ≡ places p
over_zeros p at z = ap (λ l. p ++ l) (ap (drop (length p)) z ∙ drop-zeros (length p) most_bays)

-- each crossing's carrier is there
abbrev There : ℕ → List Crossing → Type 0
There k xs = (i : ℕ) → i < length xs → (named xs i).carrier < k

after-places : (p : Placement) (xs : List Crossing) (ms : List ℕ) → There (length p) xs → after (places p) (done_of xs ms) ≡ places (after p (done_of xs ms))
unfolding after done_of
after-places p [] ms f = refl
after-places p (x ∷ xs) [] f = refl
after-places p (x ∷ xs) (m ∷ ms) f =
    by_cases (done m)
    (λ e. rw e (ap (λ q. after q (done_of xs ms)) (sym (places-move p x (f 0 (omega arith))))
    ∙ after-places (move p x) xs ms (λ i h. rw length-set (f (suc i) (omega arith)))))
    (λ e. rw e (after-places p xs ms (λ i h. f (suc i) (omega arith))))

pub stands : (starts : Placement) (plan marks : List ℕ) → Fit starts plan marks
    → after (places starts) (done_of (crossings plan) marks) ≡ places (placement_by starts (crossings plan) marks)
stands starts plan marks f =
    after-places starts (crossings plan) marks (λ i h. rw (named-is plan i) (f.fits i (rw length-map at h)).0)

-- carriers below k ≤ 256 are below 256
pub fits_all : (starts : Placement) (plan marks : List ℕ) → Fit starts plan marks → Fits most_bays most_bays plan
fits_all starts plan marks f i h = let g = f.fits i h in (omega (arith, g.0, f.few), g.1, g.2)
