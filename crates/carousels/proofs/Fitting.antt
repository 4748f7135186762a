-- A list in which nothing stands twice, and whose members are all in another list, is no longer than that list.
use mathlib.Core.Path.{◌≡◌, sym, ap}
use mathlib.Core.Bool.{not}
use mathlib.Core.List.{List, [], ◌∷◌}
use Prim.Native.Nat.{ℕ, ◌<◌, ◌≤◌}
use native.Mathlib.Omega.{arith}
use lib.Dec.{eqb}
use lib.ListN.{length}
use borrow.Author.Tests.{eqb-true, eq-eqb}
use Rattle.paper.specs.Basics.{filter, In, NoDup}
use Rattle.paper.proofs.Tests.{by_cases, not-both}
use Rattle.paper.proofs.Members.{In-nil, In-head, In-tail, In-cases, in-filter}

-- the members that are not x
unfoldable others : ℕ → List ℕ → List ℕ
others x ys = filter (λ y. not (eqb y x)) ys

others-le : (x : ℕ) (ys : List ℕ) → length (others x ys) ≤ length ys
unfolding others filter
others-le x [] = omega arith
others-le x (y ∷ ys) =
    let ih = others-le x ys in
    by_cases (eqb y x) (λ e. rw e (omega arith)) (λ e. rw e (omega arith))

others-lt : (x : ℕ) (ys : List ℕ) → In x ys → length (others x ys) < length ys
unfolding others filter
others-lt x [] i = In-nil x i
others-lt x (y ∷ ys) i =
    by_cases (eqb y x)
    (λ e. let l = others-le x ys in rw e (omega arith))
    (λ e. In-cases x y ys i
    (λ k. not-both (eq-eqb y x (sym k)) e)
    (λ k. let ih = others-lt x ys k in rw e (omega arith)))

in-others : (x z : ℕ) (ys : List ℕ) → In z ys → (z ≡ x → ⊥) → In z (others x ys)
unfolding others
in-others x z ys i d =
    in-filter (λ y. not (eqb y x)) ys z i (by_cases (eqb z x) (λ e. absurd (d (eqb-true z x e))) (λ e. ap not e))

pub no_longer : (xs ys : List ℕ) → NoDup xs → ((x : ℕ) → In x xs → In x ys) → length xs ≤ length ys
no_longer [] ys n f = omega arith
no_longer (x ∷ xs) ys n f =
    let shorter = others-lt x ys (f x (In-head x xs)) in
    let ih = no_longer xs (others x ys) n.1
    (λ z i. in-others x z ys (f z (In-tail z x xs i)) (λ e. not-both (rw e at i) n.0)) in
    omega arith
