-- What is billed over all lines is what is done: each done crossing is counted in one line, its carrier's.
use mathlib.Core.Path.{◌≡◌, refl, ◌∙◌, ap}
use mathlib.Core.List.{List, [], ◌∷◌, map}
use Prim.Native.Nat.{ℕ, zero, suc, ◌<◌, ◌≤◌, ◌+◌}
use native.Mathlib.Omega.{arith}
use lib.Dec.{eqb}
use lib.ListN.{length}
use borrow.Author.Tests.{eqb-true, eqb-false, ne_eqb}
use Rattle.paper.specs.Basics.{count_from}
use Rattle.paper.specs.Yard.{Crossing, named}
use Rattle.paper.specs.Dependence.{done_of, count_of}
use Rattle.paper.proofs.Tests.{by_cases}
use Rattle.bills.specs.Billing.{line_of, lines_of}
unfoldable pub use Rattle.bills.specs.Demand.{total_billed}

-- the counts of the carriers from a on, k of them
counts : ℕ → ℕ → List Crossing → ℕ
counts a zero ys = 0
counts a (suc k) ys = count_of a ys + counts (suc a) k ys

billed-counts : (a k : ℕ) (xs : List Crossing) (ms : List ℕ) → total_billed (map (line_of xs ms) (count_from a k)) ≡ counts a k (done_of xs ms)
unfolding total_billed counts count_from
billed-counts a zero xs ms = refl
billed-counts a (suc k) xs ms = ap (λ s. count_of a (done_of xs ms) + s) (billed-counts (suc a) k xs ms)

none-counted : (a k : ℕ) → ◌≡◌ {A = ℕ} (counts a k []) 0
unfolding counts count_of
none-counted a zero = refl
none-counted a (suc k) = let ih = none-counted (suc a) k in omega arith

lower-uncounted : (a k : ℕ) (y : Crossing) (ys : List Crossing) → y.carrier < a → counts a k (y ∷ ys) ≡ counts a k ys
unfolding counts count_of
lower-uncounted a zero y ys h = refl
lower-uncounted a (suc k) y ys h =
    rw (ne_eqb y.carrier a (λ e. absurd (omega arith))) (ap (λ s. count_of a ys + s) (lower-uncounted (suc a) k y ys (omega arith)))

counted-once : (a k : ℕ) (y : Crossing) (ys : List Crossing) → a ≤ y.carrier → y.carrier < a + k → counts a k (y ∷ ys) ≡ suc (counts a k ys)
unfolding counts count_of
counted-once a zero y ys l h = absurd (omega arith)
counted-once a (suc k) y ys l h =
    by_cases (eqb y.carrier a)
    (λ e.
    let s = eqb-true y.carrier a e in
    let r = lower-uncounted (suc a) k y ys (omega arith) in
    rw e (omega arith))
    (λ e.
    let s = eqb-false y.carrier a e in
    let r = counted-once (suc a) k y ys (omega arith) (omega arith) in
    rw e (omega arith))

counts_all : (k : ℕ) (ys : List Crossing) → ((i : ℕ) → i < length ys → (named ys i).carrier < k) → counts 0 k ys ≡ length ys
counts_all k [] f = none-counted 0 k
counts_all k (y ∷ ys) f =
    counted-once 0 k y ys (omega arith) (omega (arith, f 0 (omega arith))) ∙ ap suc (counts_all k ys (λ i h. f (suc i) (omega arith)))

pub billed-is-done : (k : ℕ) (xs : List Crossing) (ms : List ℕ) → ((i : ℕ) → i < length (done_of xs ms) → (named (done_of xs ms) i).carrier < k)
    → total_billed (lines_of k xs ms) ≡ length (done_of xs ms)
billed-is-done k xs ms f = billed-counts 0 k xs ms ∙ counts_all k (done_of xs ms) f
