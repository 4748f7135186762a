-- What opening and a report on record and lines answer, each exactly when the request says, and that record and lines worked out afresh stay so: an
-- accepted name is undone with marks in order, so changing them in place gives what working them out gives.
use mathlib.Core.Path.{◌≡◌, refl, sym, ◌∙◌, ap}
use mathlib.Core.Bool.{true, false}
use mathlib.Core.Logic.{◌↔◌}
use mathlib.Core.List.{List}
use mathlib.Core.Option.{none, some}
use Prim.Native.Nat.{ℕ, ◌<◌}
use lib.ListN.{length, get_or, set}
use borrow.Author.Tests.{not-false, eqb-true, ne_eqb}
use Rattle.paper.specs.Basics.{elem}
use Rattle.paper.specs.Yard.{Placement, Yard, Crossing, legal_plan, crossings, named}
use Rattle.paper.specs.Order.{Order}
use Rattle.paper.specs.Dependence.{is_done, slots}
use Rattle.paper.specs.Docket.{Refusal, room, disagrees, yard_of, bad_marks, mismarked}
use Rattle.paper.specs.Answers.{Report, accept, already, refuse, accepts, tell, check, report}
use Rattle.paper.specs.Log.{Request}
use Rattle.paper.proofs.Tests.{by_cases, by-option, not-both, never, never-some, or-none, none_both, none-when}
use Rattle.paper.proofs.Marking.{InOrder, in_order}
use Rattle.paper.proofs.Checking.{check-passed}
use Rattle.paper.proofs.Reporting.{Ready, marks-long, tell-facts, facts-accept}
use Rattle.exactly.proofs.Reporting.{report-never}
use Rattle.bills.specs.Billing.{posted, entered}
use Rattle.bills.specs.Answering.{agrees, differs, up_to_eleven, opening, opened_record, opened_lines, agree, agreement, billing, then_marks, then_record, then_lines}
use Rattle.bills.specs.Keeping.{Books, answer_on, books_by}
use Rattle.bills.specs.declared.Record.{Record}
use Rattle.bills.specs.declared.Line.{Line}
use Rattle.bills.proofs.Stepping.{record-step, lines_step, lines_long, carrier_there}
use Rattle.bills.proofs.Same.{Afresh, agree-exactly, differ-exactly}

-- marks that 11 passes are in order
pub order-of : (xs : List Crossing) (ms : List ℕ) → bad_marks xs ms ≡ false → InOrder xs ms
unfolding bad_marks
order-of xs ms h = in_order xs ms (or-none _ _ h).1

-- only acceptance accepts
pub accepts-accept : (r : Report) → (accepts r ≡ true) ↔ (r ≡ accept)
unfolding accepts
accepts-accept r = (to r, λ e. ap accepts e)
  where
    to : (r : Report) → accepts r ≡ true → r ≡ accept
    to accept h = refl
    to already h = not-both h refl
    to (refuse x) h = not-both h refl

unaccepting : (r : Report) → (r ≡ accept → ⊥) → accepts r ≡ false
unaccepting r h = by_cases (accepts r) (λ e. absurd (h ((accepts-accept r).0 e))) (λ e. e)

module _ (o : Order) (plan marks : List ℕ) where
  -- "the refusals up to 11" pass exactly if the check does and the marks are in order
  pub eleven-exactly : (up_to_eleven o plan marks ≡ none)
      ↔ ((check o plan ≡ none) × (bad_marks (crossings plan) marks ≡ false))
  unfolding up_to_eleven
  eleven-exactly = (
    λ h. let b = none_both (check o plan) _ h in (b.0, none-when (bad_marks (crossings plan) marks) mismarked b.1),
    λ f. rw (f.0, f.1),
  )

  -- the paper's report does the same tests first
  report-refused : (name : ℕ) (r : Refusal) → up_to_eleven o plan marks ≡ some r → report o plan marks name ≡ refuse r
  unfolding up_to_eleven report tell
  report-refused name r u =
      by-option (check o plan)
      (λ p. by_cases (bad_marks (crossings plan) marks)
      (λ m. let k = rw (p, m) at u in rw (p, m) (cc))
      (λ m. let k = rw (p, m) at u in never-some r k))
      (λ x p. let k = rw p at u in rw p (cc))

  report-goes-on : (name : ℕ) → up_to_eleven o plan marks ≡ none
      → report o plan marks name ≡ tell (crossings plan) marks name
  unfolding report
  report-goes-on name u = rw (eleven-exactly.0 u).0

  -- and answers 19 to no name
  never-19 : (name : ℕ) → report o plan marks name ≡ refuse disagrees → ⊥
  unfolding elem
  never-19 name h = report-never o plan marks name disagrees refl h

  -- ## Opening

  -- "otherwise opening answers 8 carrying k, after 11"
  pub opening-room : (lent : ℕ) → up_to_eleven o plan marks ≡ none → (lent ≡ length o.starts → ⊥)
      → opening o plan marks lent ≡ some (room (length o.starts))
  unfolding opening
  opening-room lent h k = rw (h, ne_eqb lent (length o.starts) k)

  pub opening-eleven : (lent : ℕ) (r : Refusal) → up_to_eleven o plan marks ≡ some r → opening o plan marks lent ≡ some r
  unfolding opening
  opening-eleven lent r h = rw h

  module _ (rec : Record) (lines : List Line) where
    -- "opening builds both from plan and marks"; the lines are k
    pub opened : opening o plan marks (length lines) ≡ none
        → Afresh o.starts plan marks (opened_record o plan marks rec (length lines)) (opened_lines o plan marks lines)
        × (length (opened_lines o plan marks lines) ≡ length o.starts)
        × (length lines ≡ length o.starts)
    unfolding opening opened_record opened_lines
    opened h = ((rw h refl, rw h refl), rw h (lines_long (length o.starts) (crossings plan) marks), long h)
      where
        long : opening o plan marks (length lines) ≡ none → length lines ≡ length o.starts
        long h = eqb-true _ _ (not-false _ (none-when _ (room (length o.starts)) (none_both (up_to_eleven o plan marks) _ h).1))

    -- a refusal leaves both as they were
    pub not_opened : (r : Refusal) → opening o plan marks (length lines) ≡ some r
        → (opened_record o plan marks rec (length lines) ≡ rec) × (opened_lines o plan marks lines ≡ lines)
    unfolding opened_record opened_lines
    not_opened r h = (rw h, rw h)

  -- ## The agreement test and a report

  module _ (rec : Record) (lines : List Line) where
    -- "a separate test, after the refusals up to 11, answers yes exactly if all agree"
    pub agrees-exactly : (agreement o plan marks rec lines ≡ agrees)
        ↔ ((up_to_eleven o plan marks ≡ none) × Afresh o.starts plan marks rec lines)
    unfolding agreement
    agrees-exactly = (
      λ h. by-option (up_to_eleven o plan marks)
          (λ u. by_cases (agree o plan marks rec lines)
          (λ a. (u, (agree-exactly o plan marks rec lines).0 a))
          (λ a. let k = rw (u, a) at h in never (cc)))
          (λ r u. let k = rw u at h in never (cc)),
      λ f. rw (f.0, (agree-exactly o plan marks rec lines).1 f.1),
    )

    pub differs-exactly : (agreement o plan marks rec lines ≡ differs)
        ↔ ((up_to_eleven o plan marks ≡ none) × (Afresh o.starts plan marks rec lines → ⊥))
    unfolding agreement
    differs-exactly = (
      λ h. by-option (up_to_eleven o plan marks)
          (λ u. by_cases (agree o plan marks rec lines)
          (λ a. let k = rw (u, a) at h in never (cc))
          (λ a. (u, (differ-exactly o plan marks rec lines).0 a)))
          (λ r u. let k = rw u at h in never (cc)),
      λ f. rw (f.0, (differ-exactly o plan marks rec lines).1 f.1),
    )

    module _ (name : ℕ) where
      -- every way in which a report's answer comes about
      pub by-billing : {P : Type 0}
          → ((r : Refusal) → up_to_eleven o plan marks ≡ some r → billing o plan marks rec lines name ≡ refuse r → P)
          → (up_to_eleven o plan marks ≡ none → agree o plan marks rec lines ≡ false
          → billing o plan marks rec lines name ≡ refuse disagrees → P)
          → (up_to_eleven o plan marks ≡ none → agree o plan marks rec lines ≡ true
          → billing o plan marks rec lines name ≡ tell (crossings plan) marks name → P)
          → P
      unfolding billing
      by-billing f g h =
          by-option (up_to_eleven o plan marks)
          (λ u. by_cases (agree o plan marks rec lines) (λ a. h u a (rw (u, a))) (λ a. g u a (rw (u, a))))
          (λ r u. f r u (rw u))

      -- "19, record disagrees, after 11 and before 12"
      pub disagrees-exactly : (billing o plan marks rec lines name ≡ refuse disagrees)
          ↔ ((up_to_eleven o plan marks ≡ none) × (agree o plan marks rec lines ≡ false))
      unfolding billing
      disagrees-exactly = (
        λ h. by-billing
            (λ r u e. absurd (never-19 name (report-refused name r u ∙ sym e ∙ h)))
            (λ u a e. (u, a))
            (λ u a e. absurd (never-19 name (report-goes-on name u ∙ sym e ∙ h))),
        λ f. rw (f.0, f.1),
      )

      -- "Demand 2's rule for accepting a name then asks for a record and lines that agree, besides plan and marks in order."
      pub accepts_exactly : (billing o plan marks rec lines name ≡ accept)
          ↔ ((up_to_eleven o plan marks ≡ none) × (agree o plan marks rec lines ≡ true)
          × (tell (crossings plan) marks name ≡ accept))
      unfolding billing
      accepts_exactly = (
        λ h. by-billing (λ r u e. never (cc)) (λ u a e. never (cc)) (λ u a e. (u, a, cc)),
        λ f. rw (f.0, f.1, f.2),
      )

      -- where it is not 19 it is the paper's answer
      pub told-or-19 : {P : Type 0} → (billing o plan marks rec lines name ≡ report o plan marks name → P)
          → (billing o plan marks rec lines name ≡ refuse disagrees → P) → P
      told-or-19 f g =
          by-billing
          (λ r u e. f (e ∙ sym (report-refused name r u)))
          (λ u a e. g e)
          (λ u a e. f (e ∙ sym (report-goes-on name u)))

      -- what it accepts the paper's report accepts
      pub accepted-too : billing o plan marks rec lines name ≡ accept → report o plan marks name ≡ accept
      accepted-too h = told-or-19 (λ e. sym e ∙ h) (λ e. never (cc))

      -- with all in order it is the paper's answer
      pub billing-told : check o plan ≡ none → bad_marks (crossings plan) marks ≡ false → Afresh o.starts plan marks rec lines
          → billing o plan marks rec lines name ≡ report o plan marks name
      billing-told passes fine f =
          told-or-19 (λ e. e) (λ e. not-both ((agree-exactly o plan marks rec lines).1 f) (disagrees-exactly.0 e).1)

      -- "refusals and "already" change none of them", for any record and lines at all
      pub nothing-changed : (billing o plan marks rec lines name ≡ accept → ⊥)
          → (then_marks o plan marks rec lines name ≡ marks)
          × (then_record o plan marks rec lines name ≡ rec)
          × (then_lines o plan marks rec lines name ≡ lines)
      unfolding then_marks then_record then_lines
      nothing-changed h = let e = unaccepting (billing o plan marks rec lines name) h in (rw e, rw e, rw e)

-- ## Kept afresh

-- an accepted name, changed in place
module _ (Y : Yard) (first : Placement) (plan : List ℕ) (lawful : legal_plan Y first (crossings plan) ≡ true) where
  pub step-afresh : (marks : List ℕ) (rec : Record) (lines : List Line) (name : ℕ) → tell (crossings plan) marks name ≡ accept
      → Afresh first plan marks rec lines
      → Afresh first plan (set marks name 1)
      (posted rec (named (crossings plan) name) (get_or (slots (crossings plan)) name 0)) (entered lines (named (crossings plan) name) name)
  step-afresh marks rec lines name h f =
      let xs = crossings plan in
      let t = tell-facts xs marks name h in
      let len = marks-long xs marks t.0 in
      let order = order-of xs marks t.0 in
      let there = carrier_there Y first xs name lawful t.1 in (
        ap (λ r. posted r (named xs name) (get_or (slots xs) name 0)) f.0 ∙ sym (record-step first xs marks name len order t.1 t.2 there),
        ap (λ l. entered l (named xs name) name) f.1 ∙ sym (lines_step (length first) xs marks name len order t.1 t.2 there),
      )

  -- A report, whatever yard, start and goal it comes with, keeps what is worked out afresh from the start of a legal plan.
  pub kept-afresh : (b : Books) (q : Request) → Afresh first plan b.marks b.running b.lines
      → Afresh first plan (books_by plan b q).marks (books_by plan b q).running (books_by plan b q).lines
  unfolding then_marks then_record then_lines
  kept-afresh b q f =
      by_cases (accepts (answer_on plan b q))
      (λ e.
      let a = (accepts_exactly q.order plan b.marks b.running b.lines q.name).0
      ((accepts-accept (answer_on plan b q)).0 e) in
      rw e (step-afresh b.marks b.running b.lines q.name a.2 f))
      (λ e. rw e f)

-- "after each report on a record that agreed, record and lines equal what plan, start and marks give worked out afresh"
pub reported-afresh : (o : Order) (plan marks : List ℕ) (rec : Record) (lines : List Line) (name : ℕ)
    → Afresh o.starts plan marks rec lines
    → Afresh o.starts plan (then_marks o plan marks rec lines name)
    (then_record o plan marks rec lines name) (then_lines o plan marks rec lines name)
unfolding then_marks then_record then_lines
reported-afresh o plan marks rec lines name f =
    by_cases (accepts (billing o plan marks rec lines name))
    (λ e.
    let a = (accepts_exactly o plan marks rec lines name).0 ((accepts-accept (billing o plan marks rec lines name)).0 e) in
    let passes = ((eleven-exactly o plan marks).0 a.0).0 in
    rw e (step-afresh (yard_of o) o.starts plan (check-passed o plan passes).lawful marks rec lines name a.2 f))
    (λ e. rw e f)

-- With plan and marks in order and record and lines that agree, a name is accepted exactly if it is in the plan, not yet done, and every earlier
-- crossing it depends on is done.
pub accepts-ready : (o : Order) (plan marks : List ℕ) (rec : Record) (lines : List Line) (name : ℕ)
    → check o plan ≡ none → bad_marks (crossings plan) marks ≡ false → Afresh o.starts plan marks rec lines
    → (billing o plan marks rec lines name ≡ accept)
    ↔ ((name < length (crossings plan)) × (is_done marks name ≡ false) × Ready (crossings plan) marks name)
accepts-ready o plan marks rec lines name passes fine f = (
  λ h. let t = tell-facts (crossings plan) marks name ((accepts_exactly o plan marks rec lines name).0 h).2 in (t.1, t.2, t.3),
  λ t. let e = billing-told o plan marks rec lines name passes fine f in
      e ∙ facts-accept o plan marks passes fine name t.0 t.1 t.2,
)
