-- A report's answers with plan and marks in order, each exactly when the document says.
use mathlib.Core.Path.{◌≡◌, refl, ap}
use mathlib.Core.Bool.{true, false, not}
use mathlib.Core.Logic.{◌↔◌}
use mathlib.Core.List.{List}
use mathlib.Core.Option.{none, some}
use Prim.Native.Nat.{ℕ, ◌<◌, ◌≤◌}
use native.Mathlib.Omega.{arith}
use lib.Dec.{eqb, leb, ltb}
use lib.ListN.{length, get_or, length-set, get_or-eq_default}
use lib.Seq.{get_or-set_same, get_or-set_other}
use borrow.Author.Tests.{not-true, not-false, eqb-true, leb-false, le-leb, lt-leb, ltb-true, ltb-false}
use Rattle.paper.specs.Basics.{◌and◌, ◌or◌, up_to}
use Rattle.paper.specs.Yard.{Crossing, crossings, named}
use Rattle.paper.specs.Order.{Order}
use Rattle.paper.specs.Dependence.{depend, is_done, undone_before}
use Rattle.paper.specs.Docket.{Refusal, unknown, early, bad_marks}
use Rattle.paper.specs.Answers.{check, Report, accept, already, refuse, tell, report, marks_after, marks_end}
pub use Rattle.paper.specs.Dependence.{Ready}
use Rattle.paper.proofs.Tests.{by_cases, by-option, not-both, and_left, and_right, and_both, or-none, or-neither}
use Rattle.paper.proofs.Members.{any_of, in_count, count-high, find_none, none-find, find-up_to}
use Rattle.paper.proofs.Playing.{bay-in}

pub ready_of : (xs : List Crossing) (ms : List ℕ) (i : ℕ) → undone_before xs ms i ≡ none → Ready xs ms i
unfolding undone_before
ready_of xs ms i h e l d =
    by_cases (is_done ms e) (λ z. z)
    (λ z. not-both (and_both _ _ d (ap not z)) (find_none (λ a. depend (named xs i) (named xs a) and not (is_done ms a)) (up_to i) e h (in_count 0 i e (omega arith) (omega arith))))

pub of-ready : (xs : List Crossing) (ms : List ℕ) (i : ℕ) → Ready xs ms i → undone_before xs ms i ≡ none
unfolding undone_before
of-ready xs ms i r =
    none-find _ (up_to i)
    (λ e k. by_cases (depend (named xs i) (named xs e) and not (is_done ms e))
    (λ q. let l = count-high 0 i e k in not-both (r e (omega arith) (and_left _ _ q)) (not-true _ (and_right _ _ q)))
    (λ q. q))

-- 13 carries the lowest undone name of an earlier crossing that it depends on
pub early-lowest : (xs : List Crossing) (ms : List ℕ) (i e : ℕ) → undone_before xs ms i ≡ some e
    → (e < i) × (depend (named xs i) (named xs e) ≡ true) × (is_done ms e ≡ false)
    × ((a : ℕ) → a < e → depend (named xs i) (named xs a) ≡ true → is_done ms a ≡ true)
unfolding undone_before
early-lowest xs ms i e h =
    let f = find-up_to _ i e h in (
      f.0,
      and_left _ _ f.1,
      not-true _ (and_right _ _ f.1),
      λ a l d. by_cases (is_done ms a) (λ z. z) (λ z. not-both (and_both _ _ d (ap not z)) (f.2 a l)),
    )

-- the two answers that are no refusal, and a refusal
pub by-report : {P : Type 0} (r : Report) → (r ≡ accept → P) → (r ≡ already → P) → ((x : Refusal) → r ≡ refuse x → P) → P
by-report accept f g h = f refl
by-report already f g h = g refl
by-report (refuse x) f g h = h x refl

-- a mark of marks in order is 0 or 1
pub mark-bit : (xs : List Crossing) (ms : List ℕ) (i : ℕ) → bad_marks xs ms ≡ false → is_done ms i ≡ false → get_or ms i 0 ≡ 0
unfolding bad_marks
mark-bit xs ms i h d =
    by_cases (ltb i (length ms))
    (λ l.
    by_cases (eqb (get_or ms i 0) 0) (λ z. eqb-true _ _ z)
    (λ z. not-both
    (any_of (λ m. not (eqb m 0 or eqb m 1)) ms (get_or ms i 0) (bay-in ms i (ltb-true _ _ l)) (ap not (or-neither _ _ z d)))
    (or-none _ _ (or-none _ _ h).0).1))
    (λ l. get_or-eq_default ms 0 (ltb-false _ _ l))

-- marks in order are as many as the crossings
pub marks-long : (xs : List Crossing) (ms : List ℕ) → bad_marks xs ms ≡ false → length ms ≡ length xs
unfolding bad_marks
marks-long xs ms h = eqb-true _ _ (not-false _ (or-none _ _ (or-none _ _ h).0).0)

-- what an acceptance shows: the marks are in order, and the name is in the plan, undone and ready
pub tell-facts : (xs : List Crossing) (ms : List ℕ) (i : ℕ) → tell xs ms i ≡ accept
    → (bad_marks xs ms ≡ false) × (i < length xs) × (is_done ms i ≡ false) × Ready xs ms i
unfolding tell
tell-facts xs ms i h =
    by_cases (bad_marks xs ms)
    (λ f. let a = rw f at h in let z : ◌≡◌ {A = ℕ} 0 1 = cc in absurd (omega arith))
    (λ f.
    let a = rw f at h in
    by_cases (leb (length xs) i)
    (λ e. let b = rw e at a in let z : ◌≡◌ {A = ℕ} 0 1 = cc in absurd (omega arith))
    (λ e.
    let b = rw e at a in
    by_cases (is_done ms i)
    (λ d. let c = rw d at b in let z : ◌≡◌ {A = ℕ} 0 1 = cc in absurd (omega arith))
    (λ d.
    let c = rw d at b in
    by-option (undone_before xs ms i)
    (λ u. (f, leb-false _ _ e, d, ready_of xs ms i u))
    (λ y u. let w = rw u at c in let z : ◌≡◌ {A = ℕ} 0 1 = cc in absurd (omega arith)))))

module _ (o : Order) (plan : List ℕ) (ms : List ℕ) where
  -- the same of a report, and the check passes
  pub accept-facts : (i : ℕ) → report o plan ms i ≡ accept
      → (check o plan ≡ none) × (bad_marks (crossings plan) ms ≡ false)
      × (i < length (crossings plan)) × (is_done ms i ≡ false) × Ready (crossings plan) ms i
  unfolding report
  accept-facts i h =
      by-option (check o plan)
      (λ p. let f = tell-facts (crossings plan) ms i (rw p at h) in (p, f.0, f.1, f.2, f.3))
      (λ r p. let a = rw p at h in let z : ◌≡◌ {A = ℕ} 0 1 = cc in absurd (omega arith))

  module _ (passes : check o plan ≡ none) (fine : bad_marks (crossings plan) ms ≡ false) where
    pub facts-accept : (i : ℕ) → i < length (crossings plan) → is_done ms i ≡ false → Ready (crossings plan) ms i
        → report o plan ms i ≡ accept
    unfolding report tell
    facts-accept i l d r =
        rw (passes, fine, lt-leb (length (crossings plan)) i l, d, of-ready (crossings plan) ms i r)

    -- A reported name is accepted exactly if it is in the plan, not yet done, and every earlier crossing it depends on is done.
    pub report-accepts : (i : ℕ) → (report o plan ms i ≡ accept)
        ↔ ((i < length (crossings plan)) × (is_done ms i ≡ false) × Ready (crossings plan) ms i)
    report-accepts i = (λ h. let f = accept-facts i h in (f.2, f.3, f.4), λ f. facts-accept i f.0 f.1 f.2)

    -- a done name answers "already"
    pub done-already : (i : ℕ) → i < length (crossings plan) → is_done ms i ≡ true → report o plan ms i ≡ already
    unfolding report tell
    done-already i l d = rw (passes, fine, lt-leb (length (crossings plan)) i l, d)

    -- 12 exactly where the name is not in the plan
    pub not-in-plan : (i : ℕ) → length (crossings plan) ≤ i → report o plan ms i ≡ refuse unknown
    unfolding report tell
    not-in-plan i l = rw (passes, fine, le-leb (length (crossings plan)) i l)

    -- 13 where some earlier crossing that it depends on is undone
    pub told-early : (i e : ℕ) → i < length (crossings plan) → is_done ms i ≡ false → undone_before (crossings plan) ms i ≡ some e
        → report o plan ms i ≡ refuse (early e)
    unfolding report tell
    told-early i e l d u = rw (passes, fine, lt-leb (length (crossings plan)) i l, d, u)

    -- an accepted report changes the mark of the reported name from 0 to 1 and no other
    pub accepted-mark : (i : ℕ) → report o plan ms i ≡ accept
        → (get_or ms i 0 ≡ 0) × (get_or (marks_end o plan ms i) i 0 ≡ 1)
        × ((j : ℕ) → (j ≡ i → ⊥) → get_or (marks_end o plan ms i) j 0 ≡ get_or ms j 0)
        × (length (marks_end o plan ms i) ≡ length ms)
    unfolding marks_after
    accepted-mark i h =
        let f = accept-facts i h in
        let xs = crossings plan in
        let len : length ms ≡ length xs = marks-long xs ms fine in (
          mark-bit xs ms i fine f.3,
          rw h (get_or-set_same ms i 1 0 (rw len f.2)),
          λ j ne. rw h (get_or-set_other ms i j 1 0 ne),
          rw h (length-set ms i 1),
        )
