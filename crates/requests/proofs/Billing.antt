-- Opening, the agreement test and a report on record and lines answer by their rows in their order: 8 after 11; 19 after 11 and before 12.
use mathlib.Core.Path.{◌≡◌, refl, sym, ◌∙◌, ap}
use mathlib.Core.Bool.{not}
use mathlib.Core.List.{List}
use mathlib.Core.Logic.{◌↔◌}
use mathlib.Core.Option.{Option, none, some}
use Prim.Native.Nat.{ℕ}
use lib.Dec.{eqb}
use lib.ListN.{length}
use borrow.Author.Tests.{not-true, eqb-false, ne_eqb}
use Rattle.paper.specs.Basics.{◌>>=◌, or_else, elem, ◌and◌}
use Rattle.paper.specs.Yard.{crossings}
use Rattle.paper.specs.Order.{Order}
use Rattle.paper.specs.Docket.{Refusal, room, disagrees, number, carried}
use Rattle.paper.specs.Answers.{Report, accept, already, refuse}
use Rattle.paper.proofs.Tests.{by-option, by_cases, never}
use Rattle.paper.proofs.Determined.{docket-tells}
use Rattle.exactly.specs.First.{Row, NoneOf, Given, distinct}
use Rattle.exactly.specs.Rows.{already_number, report_number, report_value, mark_rows}
use Rattle.exactly.proofs.First.{after-it, exactly, nothing-exactly, never-given, plain-test, known-test, otherwise, otherwise-exactly, other-exactly}
use Rattle.exactly.proofs.Six.{Refuses}
use Rattle.exactly.proofs.Checking.{marks-read}
use Rattle.exactly.proofs.Reporting.{Reports, refusing, known, known-reads, tell-is}
use Rattle.bills.specs.Answering.{agrees, differs, refused, up_to_eleven, opening, agree, agreement, no_19, billing}
use Rattle.bills.specs.declared.Record.{Record}
use Rattle.bills.specs.declared.Line.{Line}
use Rattle.bills.proofs.Same.{differ-exactly}
use Rattle.bills.proofs.Keeping.{eleven-exactly, agrees-exactly, differs-exactly}
use Rattle.requests.specs.Rows.{open_rows, Afresh, billed_rows}

module _ (o : Order) (plan marks : List ℕ) where
  eleven-reads : Refuses (up_to_eleven o plan marks) (mark_rows o plan marks)
  unfolding up_to_eleven
  eleven-reads = marks-read o plan marks

  -- ## Opening

  opening-reads : (lent : ℕ) → Refuses (opening o plan marks lent) (open_rows o plan marks lent)
  unfolding opening
  opening-reads lent =
      after-it number carried eleven-reads (λ _.
      known-test number carried (λ v. (v ≡ length o.starts) × (lent ≡ length o.starts → ⊥)) (not (eqb lent (length o.starts))) room (length o.starts) 8
      (docket-tells (room (length o.starts))) refl refl
      (λ h. (refl, eqb-false _ _ (not-true _ h)))
      (λ v w. (ap not (ne_eqb _ _ w.1), w.0)))

  -- Opening refuses exactly by the first of 1 to 6, 9, 10, 11, 8 that applies.
  pub opening-refuses : (lent : ℕ) (r : Refusal) → (opening o plan marks lent ≡ some r)
      ↔ Given (open_rows o plan marks lent) (number r) (carried r)
  unfolding distinct elem ◌and◌
  opening-refuses lent r = exactly number carried (opening-reads lent) refl r

  pub opening-opens : (lent : ℕ) → (opening o plan marks lent ≡ none) ↔ NoneOf (open_rows o plan marks lent)
  opening-opens lent = nothing-exactly number carried (opening-reads lent)

  module _ (rec : Record) (lines : List Line) where
    -- ## The agreement test

    -- It refuses exactly by the first of 1 to 6, 9, 10, 11 that applies; else it says whether all agree.
    pub agreement-refuses : (r : Refusal) → (agreement o plan marks rec lines ≡ refused r)
        ↔ Given (mark_rows o plan marks) (number r) (carried r)
    unfolding agreement distinct elem ◌and◌
    agreement-refuses r =
        let e = exactly number carried eleven-reads refl r in (
          λ h. e.0 (by-option (up_to_eleven o plan marks)
              (λ u. by_cases (agree o plan marks rec lines)
              (λ a. let k = rw (u, a) at h in never (cc))
              (λ a. let k = rw (u, a) at h in never (cc)))
              (λ q u. let k : refused q ≡ refused r = rw u at h in let z : q ≡ r = cc in u ∙ ap some z)),
          λ g. rw (e.1 g),
        )

    pub agreement-yes : (agreement o plan marks rec lines ≡ agrees)
        ↔ (NoneOf (mark_rows o plan marks) × Afresh o plan marks rec lines)
    agreement-yes =
        let e = nothing-exactly number carried eleven-reads in
        let f = agrees-exactly o plan marks rec lines in
        (λ h. let k = f.0 h in (e.0 k.0, k.1), λ k. f.1 (e.1 k.0, k.1))

    pub agreement-no : (agreement o plan marks rec lines ≡ differs)
        ↔ (NoneOf (mark_rows o plan marks) × (Afresh o plan marks rec lines → ⊥))
    agreement-no =
        let e = nothing-exactly number carried eleven-reads in
        let f = differs-exactly o plan marks rec lines in
        (λ h. let k = f.0 h in (e.0 k.0, k.1), λ k. f.1 (e.1 k.0, k.1))

-- ## A report on record and lines

module _ (o : Order) (plan marks : List ℕ) (rec : Record) (lines : List Line) (name : ℕ) where
  abbrev tests : Option Report
  tests =
      or_else (up_to_eleven o plan marks >>= λ r. some (refuse r))
      (or_else (no_19 o plan marks rec lines >>= λ r. some (refuse r))
      (known (crossings plan) marks name))

  billing-is : billing o plan marks rec lines name ≡ otherwise tests accept
  unfolding billing
  billing-is =
      by-option (up_to_eleven o plan marks)
      (λ u. by_cases (agree o plan marks rec lines)
      (λ a.
      let fine = ((eleven-exactly o plan marks).0 u).1 in
      rw (u, a) (tell-is (crossings plan) marks name fine))
      (λ a. rw (u, a)))
      (λ r u. rw u)

  abbrev Rows : List Row
  Rows = billed_rows o plan marks rec lines name

  billing-reads : Reports tests Rows
  unfolding elem
  billing-reads =
      let d = differ-exactly o plan marks rec lines in
      after-it report_number report_value (refusing (eleven-reads o plan marks) refl refl) (λ _.
      after-it report_number report_value
      (refusing
      (plain-test number carried (Afresh o plan marks rec lines → ⊥) (not (agree o plan marks rec lines)) disagrees (docket-tells disagrees) refl
      (λ h. d.0 (not-true _ h), λ f. ap not (d.1 f))) refl refl) (λ _.
      known-reads (crossings plan) marks name))

  gives : (a : Report) → (a ≡ accept → ⊥) → (billing o plan marks rec lines name ≡ a) ↔ Given Rows (report_number a) (report_value a)
  unfolding distinct elem ◌and◌
  gives a other =
      let e = exactly report_number report_value billing-reads refl a in
      let f = otherwise-exactly tests accept a other in
      (λ h. e.0 (f.0 (sym billing-is ∙ h)), λ g. billing-is ∙ f.1 (e.1 g))

  -- It refuses exactly by the first of 1 to 6, 9, 10, 11, 19, 12, "already", 13 that applies, and accepts exactly if none does.
  pub billing-refuses : (r : Refusal) → (billing o plan marks rec lines name ≡ refuse r) ↔ Given Rows (number r) (carried r)
  billing-refuses r = gives (refuse r) (λ h. never (cc))

  pub billing-already : (billing o plan marks rec lines name ≡ already) ↔ Given Rows already_number none
  billing-already = gives already (λ h. never (cc))

  pub billing-accepts : (billing o plan marks rec lines name ≡ accept) ↔ NoneOf Rows
  unfolding elem
  billing-accepts =
      let e = nothing-exactly report_number report_value billing-reads in
      let f = other-exactly tests accept (never-given report_number report_value billing-reads accept refl) in
      (λ h. e.0 (f.0 (sym billing-is ∙ h)), λ g. billing-is ∙ f.1 (e.1 g))
