-- Two crossings that do not depend on each other share neither a carrier nor a bay, so either may come first. Hence a set of
-- done crossings that is closed downwards can be played before the others.
use mathlib.Core.Path.{◌≡◌, refl, sym, ◌∙◌, ap}
use mathlib.Core.Bool.{true, false}
use mathlib.Core.List.{List, [], ◌∷◌, ◌++◌}
use Prim.Native.Nat.{ℕ}
use lib.Dec.{eqb}
use lib.ListN.{length-set}
use lib.Seq.{lt-length-set, set_comm}
use borrow.Author.Tests.{eqb-true, eqb-false, ne_eqb}
use Rattle.paper.specs.Yard.{Yard, Placement, Crossing, bay_of, move, after, legal_plan}
use Rattle.paper.specs.Dependence.{depend, done, done_of, undone_of}
use Rattle.paper.proofs.Tests.{by_cases, not-both, or-none, or-neither}
use Rattle.paper.proofs.Playing.{Legal, legal-facts, legal-of, after-append, plan-head, plan-tail, plan-cons, out_of, out-no, move-other, move-out}

-- neither the carrier nor any bay in common
pub record Indep (x y : Crossing) : Type 0 where
  pub carriers : x.carrier ≡ y.carrier → ⊥
  pub from_from : x.from ≡ y.from → ⊥
  pub from_to : x.from ≡ y.to → ⊥
  pub to_from : x.to ≡ y.from → ⊥
  pub to_to : x.to ≡ y.to → ⊥

pub indep-of : (x y : Crossing) → depend x y ≡ false → Indep x y
unfolding depend
indep-of x y h =
    let a = or-none _ _ h in
    let b = or-none _ _ a.0 in
    let c = or-none _ _ b.0 in
    let d = or-none _ _ c.0 in
    record {
      carriers = eqb-false _ _ d.0;
      from_from = eqb-false _ _ d.1;
      from_to = eqb-false _ _ c.1;
      to_from = eqb-false _ _ b.1;
      to_to = eqb-false _ _ a.1;
    }

pub of-indep : (x y : Crossing) → Indep x y → depend x y ≡ false
unfolding depend
of-indep x y i =
    or-neither _ _ (or-neither _ _ (or-neither _ _ (or-neither _ _ (ne_eqb _ _ i.carriers) (ne_eqb _ _ i.from_from)) (ne_eqb _ _ i.from_to)) (ne_eqb _ _ i.to_from))
    (ne_eqb _ _ i.to_to)

pub indep-sym : (x y : Crossing) → Indep x y → Indep y x
indep-sym x y i = record {
  carriers = λ e. i.carriers (sym e);
  from_from = λ e. i.from_from (sym e);
  from_to = λ e. i.to_from (sym e);
  to_from = λ e. i.from_to (sym e);
  to_to = λ e. i.to_to (sym e);
}

-- two crossings depend on each other
pub depend-sym : (x y : Crossing) → depend x y ≡ depend y x
depend-sym x y =
    by_cases (depend x y)
    (λ e. by_cases (depend y x) (λ f. e ∙ sym f) (λ f. not-both e (of-indep x y (indep-sym y x (indep-of y x f)))))
    (λ e. e ∙ sym (of-indep y x (indep-sym x y (indep-of x y e))))

-- x is independent of each of the crossings
abbrev pub AllIndep : Crossing → List Crossing → Type 0
AllIndep x [] = Unit {0}
AllIndep x (y ∷ ys) = Indep x y × AllIndep x ys

module _ (Y : Yard) where
  pub plan-left : (p : Placement) (xs ys : List Crossing) → legal_plan Y p (xs ++ ys) ≡ true → legal_plan Y p xs ≡ true
  unfolding legal_plan
  plan-left p [] ys h = refl
  plan-left p (x ∷ xs) ys h = plan-cons Y p x xs (plan-head Y p x (xs ++ ys) h) (plan-left (move p x) xs ys (plan-tail Y p x (xs ++ ys) h))

  pub plan-right : (p : Placement) (xs ys : List Crossing) → legal_plan Y p (xs ++ ys) ≡ true → legal_plan Y (after p xs) ys ≡ true
  unfolding after
  plan-right p [] ys h = h
  plan-right p (x ∷ xs) ys h = plan-right (move p x) xs ys (plan-tail Y p x (xs ++ ys) h)

  -- Two independent crossings, legal one after the other, are legal the other way round, and end the same.
  pub commute : (p : Placement) (c d : Crossing) → Indep c d → Legal Y p c → Legal Y (move p c) d
      → Legal Y p d × Legal Y (move p d) c × (move (move p c) d ≡ move (move p d) c)
  commute p c d i lc ld =
      let l : Legal Y p d = record {
        there = rw length-set at ld.there;
        stands = sym (move-other Y p c lc d.carrier (ne_eqb _ _ (λ e. i.carriers (sym e)))) ∙ ld.stands;
        rail = ld.rail;
        free = out_of p d.to
            (λ e h q.
            by_cases (eqb e c.carrier)
            (λ a. i.from_to (sym lc.stands ∙ ap (bay_of p) (sym (eqb-true e c.carrier a)) ∙ q))
            (λ a. out-no (move p c) d.to ld.free e (rw length-set h) (move-other Y p c lc e a ∙ q)));
      } in (
        l,
        record {
          there = lt-length-set p d.carrier d.to lc.there;
          stands = move-other Y p d l c.carrier (ne_eqb _ _ i.carriers) ∙ lc.stands;
          rail = lc.rail;
          free = move-out Y p d l c.to lc.free i.to_to;
        },
        set_comm p c.carrier d.carrier c.to d.to i.carriers,
      )

  -- A crossing that is independent of all behind it may come last.
  pub come-last : (p : Placement) (x : Crossing) (ys : List Crossing) → AllIndep x ys → legal_plan Y p (x ∷ ys) ≡ true
      → (legal_plan Y p (ys ++ (x ∷ [])) ≡ true) × (after p (ys ++ (x ∷ [])) ≡ after p (x ∷ ys))
  unfolding after
  come-last p x [] i h = (h, refl)
  come-last p x (y ∷ ys) i h =
      let t = plan-tail Y p x (y ∷ ys) h in
      let c = commute p x y i.0 (legal-facts Y p x (plan-head Y p x (y ∷ ys) h)) (legal-facts Y (move p x) y (plan-head Y (move p x) y ys t)) in
      let k : legal_plan Y (move p y) (x ∷ ys) ≡ true =
      plan-cons Y (move p y) x ys (legal-of Y (move p y) x c.1) (rw c.2 at (plan-tail Y (move p x) y ys t)) in
      let ih = come-last (move p y) x ys i.1 k in
      (plan-cons Y p y (ys ++ (x ∷ [])) (legal-of Y p y c.0) ih.0, ih.1 ∙ ap (λ q. after q ys) (sym c.2))

-- Closed downwards: an undone crossing is independent of every done one behind it.
abbrev pub Closed : List Crossing → List ℕ → Type 0
Closed [] ms = Unit {0}
Closed (x ∷ xs) [] = Unit {0}
Closed (x ∷ xs) (m ∷ ms) = (done m ≡ false → AllIndep x (done_of xs ms)) × Closed xs ms

-- What a set of done crossings that is closed downwards does: they are legal in plan order, the others are legal behind them, and the end is the plan's.
pub record DoneSet (Y : Yard) (p : Placement) (xs : List Crossing) (ms : List ℕ) : Type 0 where
  pub first : legal_plan Y p (done_of xs ms) ≡ true
  pub behind : legal_plan Y (after p (done_of xs ms)) (undone_of xs ms) ≡ true
  pub ends : after (after p (done_of xs ms)) (undone_of xs ms) ≡ after p xs

module _ (Y : Yard) where
  pub done-set : (p : Placement) (xs : List Crossing) (ms : List ℕ) → Closed xs ms → legal_plan Y p xs ≡ true → DoneSet Y p xs ms
  unfolding done_of undone_of after legal_plan
  done-set p [] ms c h = record { first = refl; behind = refl; ends = refl }
  done-set p (x ∷ xs) [] c h = record { first = refl; behind = h; ends = refl }
  done-set p (x ∷ xs) (m ∷ ms) c h =
      let ih = done-set (move p x) xs ms c.1 (plan-tail Y p x xs h) in
      let l = plan-head Y p x xs h in
      by_cases (done m)
      (λ e. record { first = rw e (plan-cons Y p x (done_of xs ms) l ih.first); behind = rw e ih.behind; ends = rw e ih.ends })
      (λ e.
      let D = done_of xs ms in
      let moved = come-last Y p x D (c.0 e) (plan-cons Y p x D l ih.first) in
      let there : move (after p D) x ≡ after (move p x) D = sym (after-append p D (x ∷ [])) ∙ moved.1 in
      record {
        first = rw e (plan-left Y p D (x ∷ []) moved.0);
        behind = rw e (plan-cons Y (after p D) x (undone_of xs ms) (plan-head Y (after p D) x [] (plan-right Y p D (x ∷ []) moved.0)) (rw there ih.behind));
        ends = rw e (ap (λ q. after q (undone_of xs ms)) there ∙ ih.ends);
      })
