-- Lines that are lent, any number of them, and the same lines as they are held: a test and a report answer the same on both. Of more than 256 lines
-- only 256 are held; but no yard has as many carriers, so neither list agrees.
use mathlib.Core.Path.{◌≡◌, sym, ◌∙◌, ap, ap₂, subst}
use mathlib.Core.Bool.{true}
use mathlib.Core.List.{List}
use mathlib.Core.Option.{none}
use Prim.Native.Nat.{ℕ, ◌<◌, ◌≤◌}
use native.Mathlib.Omega.{arith}
use borrow.Author.Tests.{leb-true, leb-false}
use lib.Dec.{leb}
use lib.ListN.{length, get_or, set, length-map, length-take}
use lib.Seq.{take_all, set_out, get_or-take}
use Rattle.paper.specs.Limits.{most_bays}
use Rattle.paper.specs.Yard.{crossings, named}
use Rattle.paper.specs.Order.{Order}
use Rattle.paper.specs.Answers.{accepts}
use Rattle.paper.proofs.Tests.{by_cases, by-option}
use Rattle.paper.proofs.Packing.{named-is}
use Rattle.paper.proofs.Reporting.{tell-facts}
use Rattle.marks.specs.Reading.{report_of}
use Rattle.bills.specs.Billing.{charged, no_line}
use Rattle.bills.specs.Answering.{Agreement, up_to_eleven, agree, agreement, billing, then_marks, then_record, then_lines}
use Rattle.bills.specs.declared.Line.{Line}
use Rattle.bills.specs.declared.Record.{Record}
use Rattle.bills.proofs.Stepping.{lines_long}
use Rattle.bills.proofs.Same.{agree-exactly, other_length}
use Rattle.bills.proofs.Keeping.{accepts-accept, accepts_exactly}
use Rattle.held_lines.specs.Lines.{gathered, lines_held}
use Rattle.ledger.specs.Statements.{BillingSays}
use Rattle.held_lines.specs.declared.HeldLines.{HeldLines}
use Rattle.settling.specs.declared.Settlement.{Settlement}
use Rattle.held_lines.proofs.Laid.{held_at, held-long, held-taken}
use Rattle.agreeing.proofs.Refusing.{fit_of}

module _ (o : Order) (plan marks : List ℕ) (rec : Record) (lines : List Line) where
  agree-lent : none ≡ up_to_eleven o plan marks
      → agree o plan marks rec (lines_held (gathered lines)) ≡ agree o plan marks rec lines
  agree-lent passes =
      let few = (fit_of o plan marks passes).few in
      by_cases (leb (length lines) most_bays)
      (λ e. ap (agree o plan marks rec) (held-taken lines (leb-true (length lines) most_bays e)))
      (λ e.
      let over = leb-false (length lines) most_bays e in
      let long : length (lines_held (gathered lines)) ≡ most_bays = ap length (take_all (length lines) (gathered lines).lines (omega (arith, held-long lines, over))) ∙ held-long lines in
      other_length o plan marks rec (lines_held (gathered lines)) (λ q. absurd (omega (arith, long, q, few)))
      ∙ sym (other_length o plan marks rec lines (λ q. absurd (omega (arith, over, q, few)))))

  pub agreement-lent : agreement o plan marks rec (lines_held (gathered lines)) ≡ agreement o plan marks rec lines
  unfolding agreement
  agreement-lent = by-option (up_to_eleven o plan marks) (λ u. rw (u, agree-lent (sym u))) (λ x u. rw u)

  billing-lent : (name : ℕ) → billing o plan marks rec (lines_held (gathered lines)) name ≡ billing o plan marks rec lines name
  unfolding billing
  billing-lent name = by-option (up_to_eleven o plan marks) (λ u. rw (u, agree-lent (sym u))) (λ x u. rw u)

  -- where a report changes a line, all lines are there, and the name's carrier among them
  accepted-there : (name : ℕ) → accepts (billing o plan marks rec lines name) ≡ true
      → (length lines ≡ length o.starts) × ((named (crossings plan) name).carrier < length o.starts) × (length o.starts < most_bays)
  accepted-there name y =
      let a = (accepts_exactly o plan marks rec lines name).0 ((accepts-accept (billing o plan marks rec lines name)).0 y) in
      let fit = fit_of o plan marks (sym a.0) in
      let inside : name < length plan = rw length-map at (tell-facts (crossings plan) marks name a.2).1 in (
        ap length ((agree-exactly o plan marks rec lines).0 a.1).1 ∙ lines_long (length o.starts) (crossings plan) marks,
        rw (named-is plan name) (fit.fits name inside).0,
        fit.few,
      )

  -- what a report says of lines that are lent
  pub record ReportOnLent (name : ℕ) (r : Settlement) (marks' : List ℕ) : Type 0 where
    pub answers : report_of r.answer ≡ billing o plan marks rec lines name
    pub marks_then : marks' ≡ then_marks o plan marks rec lines name
    pub leaves : r.running ≡ then_record o plan marks rec lines name
    pub lines_then : set lines r.at r.line ≡ then_lines o plan marks rec lines name

  module _ (name : ℕ) (r : Settlement) (marks' : List ℕ) where
    pub settled-lent : BillingSays o plan marks name rec (gathered lines) r marks' → ReportOnLent name r marks'
    unfolding then_marks then_record then_lines
    settled-lent s =
        let b = billing-lent name in
        let now = billing o plan marks rec lines name in
        let c = (named (crossings plan) name).carrier in
        record {
          answers = s.answers ∙ b;
          marks_then = s.marks_then ∙ rw b;
          leaves = s.leaves ∙ rw b;
          lines_then = by_cases (accepts now)
              (λ y.
              let t = accepted-there name y in
              let there = held_at lines c (omega (arith, t.0, t.1)) (omega (arith, t.1, t.2)) in
              let place : r.at ≡ c = s.place ∙ rw (b, y) in
              let line : r.line ≡ charged (get_or lines c no_line) name = s.line_then ∙ rw (b, y) (ap (λ (l : Line). charged l name) there) in
              ap₂ (λ (i : ℕ) (l : Line). set lines i l) place line ∙ rw y)
              (λ y. let place : r.at ≡ length lines = s.place ∙ rw (b, y) in set_out lines r.at r.line (omega (arith, place)) ∙ rw y);
        }

  -- the same where what is held is known to be these lines
  pub agreement-of-lent : (held : HeldLines) → held ≡ gathered lines → {a : Agreement} → a ≡ agreement o plan marks rec (lines_held held)
      → a ≡ agreement o plan marks rec lines
  agreement-of-lent held e h = h ∙ ap (λ (g : HeldLines). agreement o plan marks rec (lines_held g)) e ∙ agreement-lent

  pub settled-of-lent : (held : HeldLines) → held ≡ gathered lines → (name : ℕ) (r : Settlement) (marks' : List ℕ)
      → BillingSays o plan marks name rec held r marks' → ReportOnLent name r marks'
  settled-of-lent held e name r marks' s = settled-lent name r marks' (subst (λ (g : HeldLines). BillingSays o plan marks name rec g r marks') e s)

-- The same by value: what is held, with the one line set, is what the report leaves.
module _ (o : Order) (plan marks : List ℕ) (rec : Record) (held : HeldLines) (name : ℕ) (r : Settlement) (marks' : List ℕ) where
  pub settled-held : BillingSays o plan marks name rec held r marks'
      → set (lines_held held) r.at r.line ≡ then_lines o plan marks rec (lines_held held) name
  unfolding then_lines
  settled-held s =
      let c = (named (crossings plan) name).carrier in
      let short : length (lines_held held) ≤ held.count = omega (arith, length-take held.count held.lines) in
      by_cases (accepts (billing o plan marks rec (lines_held held) name))
      (λ y.
      let t = accepted-there o plan marks rec (lines_held held) name y in
      let there = get_or-take held.count held.lines c no_line (omega (arith, short, t.0, t.1)) in
      let place : r.at ≡ c = s.place ∙ rw y in
      let line : r.line ≡ charged (get_or (lines_held held) c no_line) name = s.line_then ∙ rw y (ap (λ (l : Line). charged l name) (sym there)) in
      ap₂ (λ (i : ℕ) (l : Line). set (lines_held held) i l) place line ∙ rw y)
      (λ y. let place : r.at ≡ held.count = s.place ∙ rw y in set_out (lines_held held) r.at r.line (omega (arith, place, short)) ∙ rw y)
