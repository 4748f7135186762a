-- What fresh marks mean for shortening: they are in order and none is 1. Marks that are in order and are not fresh have a 1 among them.
use mathlib.Core.Path.{◌≡◌, refl, sym, ◌∙◌, ap}
use mathlib.Core.Bool.{Bool, true, false, not}
use mathlib.Core.List.{List, [], ◌∷◌}
use Prim.Native.Nat.{ℕ, zero, suc}
use native.Mathlib.Omega.{arith}
use borrow.Author.Tests.{eq-eqb, eqb-true, eqb-false, not-true, not-false, lt-ltb, le-ltb}
use lib.Dec.{eqb, ltb}
use lib.ListN.{length, length-map}
use Rattle.paper.specs.Basics.{◌or◌, any}
use Rattle.paper.specs.Yard.{crossings, unpack}
use Rattle.paper.specs.Dependence.{is_done}
use Rattle.paper.specs.Docket.{bad_marks}
use Rattle.paper.proofs.Tests.{by_cases, not-both, and_left, and_right, and_both, or_left, or-none, or-neither}
use Rattle.paper.proofs.Rings.{any-weaker}
use Rattle.paper.proofs.Marking.{order-in}
use Rattle.trips.specs.Shortening.{any_done}
use Rattle.begun.specs.Fresh.{any_set, is_fresh}

-- neither 0 nor 1
abbrev odd : ℕ → Bool
odd m = not (eqb m 0 or eqb m 1)

-- a mark that is 1, or odd, is set
one_set : (m : ℕ) → eqb m 1 ≡ true → ltb 0 m ≡ true
one_set m e = lt-ltb 0 m (omega (arith, eqb-true m 1 e))

odd_set : (m : ℕ) → odd m ≡ true → ltb 0 m ≡ true
odd_set m e = lt-ltb 0 m (let n = eqb-false m 0 (or-none _ _ (not-true _ e)).0 in omega (arith, n))

weaker-none : (q : ℕ → Bool) → ((m : ℕ) → q m ≡ true → ltb 0 m ≡ true) → (marks : List ℕ) → any_set marks ≡ false → any q marks ≡ false
unfolding any_set
weaker-none q f marks h = by_cases (any q marks) (λ e. not-both (any-weaker q (λ m. ltb 0 m) f marks e) h) (λ e. e)

-- where none is set, none is 1
undone : (marks : List ℕ) → any_set marks ≡ false → (i : ℕ) → is_done marks i ≡ false
unfolding any_set any
undone [] h i = refl
undone (m ∷ ms) h zero = by_cases (eqb m 1) (λ e. let s : any_set (m ∷ ms) ≡ true = rw (one_set m e) in not-both s h) (λ e. e)
undone (m ∷ ms) h (suc i) = by_cases (ltb 0 m) (λ e. let s : any_set (m ∷ ms) ≡ true = rw e in not-both s h) (λ e. undone ms (rw e at h) i)

-- where one is set and none is odd, one is 1
set-done : (marks : List ℕ) → any_set marks ≡ true → any odd marks ≡ false → any (λ m. eqb m 1) marks ≡ true
unfolding any_set any
set-done [] e o = e
set-done (m ∷ ms) e o =
    by_cases (eqb m 1)
    (λ k. rw k)
    (λ k.
    by_cases (eqb m 0)
    (λ z.
    let low : ltb 0 m ≡ false = le-ltb 0 m (omega (arith, eqb-true m 0 z)) in
    let fine : odd m ≡ false = ap not (or_left _ _ z) in
    rw k (set-done ms (rw low at e) (rw fine at o)))
    (λ z. let high : odd m ≡ true = ap not (or-neither _ _ z k) in not-both (let s : any odd (m ∷ ms) ≡ true = rw high in s) o))

module _ (plan marks : List ℕ) where
  none-set : is_fresh plan marks ≡ true → any_set marks ≡ false
  unfolding is_fresh
  none-set f = not-true _ (and_right _ _ f)

  pub fresh-good : is_fresh plan marks ≡ true → bad_marks (crossings plan) marks ≡ false
  unfolding is_fresh bad_marks
  fresh-good f =
      let many : length marks ≡ length (crossings plan) = eqb-true _ _ (and_left _ _ f) ∙ sym (length-map plan unpack) in
      or-neither _ _
      (or-neither _ _ (ap not (eq-eqb _ _ many)) (weaker-none _ odd_set marks (none-set f)))
      (order-in (crossings plan) marks (λ e i l k d q. not-both q (undone marks (none-set f) i)))

  pub fresh-undone : is_fresh plan marks ≡ true → any_done marks ≡ false
  unfolding any_done
  fresh-undone f = weaker-none (λ m. eqb m 1) one_set marks (none-set f)

  -- a mark that is set and not odd is 1
  pub good-done : is_fresh plan marks ≡ false → bad_marks (crossings plan) marks ≡ false → any_done marks ≡ true
  unfolding is_fresh bad_marks any_done
  good-done f b =
      let long = (or-none _ _ (or-none _ _ b).0).0 in
      let even = (or-none _ _ (or-none _ _ b).0).1 in
      let many : length marks ≡ length plan = eqb-true _ _ (not-false _ long) ∙ length-map plan unpack in
      by_cases (any_set marks)
      (λ e. set-done marks e even)
      (λ e. not-both (and_both _ _ (eq-eqb _ _ many) (ap not e)) f)
