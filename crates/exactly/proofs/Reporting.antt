-- A report answers by its rows in their order: 1 to 6, 9, 10, 11, 12, "already", 13, and is accepted exactly if none of them applies.
use mathlib.Core.Path.{◌≡◌, refl, sym, ◌∙◌}
use mathlib.Core.Bool.{true, false}
use mathlib.Core.List.{List, [], ◌∷◌}
use mathlib.Core.Logic.{◌↔◌}
use mathlib.Core.Option.{Option, none, some}
use Prim.Native.Nat.{ℕ}
use native.Mathlib.Omega.{arith}
use lib.Dec.{leb}
use lib.ListN.{length}
use borrow.Author.Tests.{eqb-true, eq-eqb}
use Rattle.paper.specs.Basics.{◌>>=◌, or_else, when, elem, ◌and◌}
use Rattle.paper.specs.Yard.{Crossing, crossings}
use Rattle.paper.specs.Order.{Order}
use Rattle.paper.specs.Dependence.{is_done, undone_before}
use Rattle.paper.specs.Docket.{Refusal, number, carried, bad_marks, no_11, no_12, no_13}
use Rattle.paper.specs.Answers.{check, Report, accept, already, refuse, tell, report}
use Rattle.paper.proofs.Tests.{by-option, by_cases, never, not-both}
use Rattle.exactly.specs.First.{Row, plain, carrying, NoneOf, Given, numbers_of, distinct}
use Rattle.exactly.specs.Words.{mark, NotInPlan, LowestUndone}
use Rattle.exactly.specs.Rows.{already_number, report_number, report_value, report_rows}
use Rattle.exactly.proofs.First.{Reads, ToldApart, after-it, exactly, nothing-exactly, never-given, plain-test, retold, otherwise, otherwise-exactly, other-exactly}
use Rattle.paper.proofs.Determined.{not-in-table}
use Rattle.exactly.proofs.Six.{Refuses}
use Rattle.exactly.proofs.Marks.{reads-12, reads-13}
use Rattle.exactly.proofs.Checking.{marks-read}

-- tests that answer reports, by rows
abbrev pub Reports : Option Report → List Row → Type 0
Reports t rows = Reads report_number report_value t rows

already-told : ToldApart report_number report_value already
unfolding elem
already-told accept n v = absurd (omega arith)
already-told already n v = refl
already-told (refuse r) n v = absurd (not-in-table 100 refl r (sym n))

-- refusals, told as reports
pub refusing : {t : Option Refusal} {rows : List Row} → Refuses t rows → elem 0 (numbers_of rows) ≡ false → elem 100 (numbers_of rows) ≡ false
    → Reports (t >>= λ r. some (refuse r)) rows
refusing {t} {rows} reads zero hundred = retold number carried report_number report_value refuse (λ r. refl) (λ r. refl) reads comes
  where
    comes : (b : Report) → elem (report_number b) (numbers_of rows) ≡ true → (r : Refusal) × (refuse r ≡ b)
    comes accept h = not-both h zero
    comes already h = not-both h hundred
    comes (refuse r) h = (r, refl)

module _ (xs : List Crossing) (marks : List ℕ) (name : ℕ) where
  -- "12; then a done name answers "already"; then 13"
  abbrev pub known : Option Report
  known =
      or_else (no_12 xs name >>= λ r. some (refuse r))
      (or_else (when (is_done marks name) already)
      (no_13 xs marks name >>= λ r. some (refuse r)))

  pub known-reads : Reports known (plain 12 (NotInPlan xs name) ∷ plain already_number (mark marks name ≡ 1) ∷ carrying 13 (LowestUndone xs marks name) ∷ [])
  unfolding elem
  known-reads =
      after-it report_number report_value (refusing (reads-12 xs marks name) refl refl) (λ _.
      after-it report_number report_value
      (plain-test report_number report_value (mark marks name ≡ 1) (is_done marks name) already already-told refl (eqb-true (mark marks name) 1, eq-eqb (mark marks name) 1)) (λ _.
      refusing (reads-13 xs marks name) refl refl))

  -- past 11
  pub tell-is : bad_marks xs marks ≡ false → tell xs marks name ≡ otherwise known accept
  unfolding tell
  tell-is m =
      by_cases (leb (length xs) name)
      (λ l. rw (m, l))
      (λ l. by_cases (is_done marks name)
      (λ d. rw (m, l, d))
      (λ d. by-option (undone_before xs marks name) (λ u. rw (m, l, d, u)) (λ e u. rw (m, l, d, u))))

module _ (o : Order) (crossed marks : List ℕ) (name : ℕ) where
  abbrev tests : Option Report
  tests =
      or_else (or_else (check o crossed) (no_11 (crossings crossed) marks) >>= λ r. some (refuse r))
      (known (crossings crossed) marks name)

  report-is : report o crossed marks name ≡ otherwise tests accept
  unfolding report tell
  report-is =
      by-option (check o crossed)
      (λ p. by_cases (bad_marks (crossings crossed) marks)
      (λ m. rw (p, m))
      (λ m. rw (p, m) (rw m at (tell-is (crossings crossed) marks name m))))
      (λ r p. rw p)

  pub report-reads : Reports tests (report_rows o crossed marks name)
  unfolding elem
  report-reads =
      after-it report_number report_value (refusing (marks-read o crossed marks) refl refl) (λ _.
      known-reads (crossings crossed) marks name)

  abbrev Rows : List Row
  Rows = report_rows o crossed marks name

  -- what the tests give, as the report's answer
  report-gives : (a : Report) → (a ≡ accept → ⊥) → (report o crossed marks name ≡ a) ↔ Given Rows (report_number a) (report_value a)
  unfolding distinct elem ◌and◌
  report-gives a other =
      let e = exactly report_number report_value report-reads refl a in
      let f = otherwise-exactly tests accept a other in
      (λ h. e.0 (f.0 (sym report-is ∙ h)), λ g. report-is ∙ f.1 (e.1 g))

  -- A report refuses exactly by the first of 1 to 6, 9, 10, 11, 12, "already", 13 that applies.
  pub report-refuses : (r : Refusal) → (report o crossed marks name ≡ refuse r) ↔ Given Rows (number r) (carried r)
  report-refuses r = report-gives (refuse r) (λ h. never (cc))

  -- what none of these has the number of it never answers
  pub report-never : (r : Refusal) → elem (number r) (numbers_of Rows) ≡ false → report o crossed marks name ≡ refuse r → ⊥
  report-never r h e =
      never-given report_number report_value report-reads (refuse r) h ((otherwise-exactly tests accept (refuse r) (λ k. never (cc))).0 (sym report-is ∙ e))

  -- A done name answers "already" exactly if none of those before 13 applies.
  pub report-already : (report o crossed marks name ≡ already) ↔ Given Rows already_number none
  report-already = report-gives already (λ h. never (cc))

  -- A name is accepted exactly if none applies.
  pub report-accepts : (report o crossed marks name ≡ accept) ↔ NoneOf Rows
  unfolding distinct elem ◌and◌
  report-accepts =
      let e = nothing-exactly report_number report_value report-reads in
      let f = other-exactly tests accept (never-given report_number report_value report-reads accept refl) in
      (λ h. e.0 (f.0 (sym report-is ∙ h)), λ g. report-is ∙ f.1 (e.1 g))
