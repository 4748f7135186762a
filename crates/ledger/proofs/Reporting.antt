-- The whole of a report, way out by way out.
use Rattle.std.specs.Prelude.{if◌then◌else◌}
use mathlib.Core.Path.{◌≡◌, refl, sym, ◌∙◌, ap}
use mathlib.Core.Bool.{Bool, true, false}
use mathlib.Core.List.{List}
use Prim.Native.Nat.{ℕ}
use lib.ListN.{set}
use Rattle.paper.specs.Yard.{crossings}
use Rattle.paper.specs.Order.{Order}
use Rattle.paper.specs.Docket as paper
use Rattle.paper.specs.Answers.{Report, accept, already, refuse, accepts, marks_after}
use Rattle.paper.proofs.Tests.{by_cases, by-option, not-both}
use Rattle.marks.specs.Reading.{report_of, told_in_order}
use Rattle.marks.proofs.Telling.{told-on}
use Rattle.bills.specs.Billing.{no_line}
use Rattle.bills.specs.Answering.{agrees, differs, refused, up_to_eleven, agree, agreement, billing, then_marks, then_record}
use Rattle.bills.specs.declared.Line.{Line}
use Rattle.bills.specs.declared.Record.{Record}
use Rattle.bills.proofs.Same.{agree-exactly, differ-exactly}
use Rattle.bills.proofs.Keeping.{eleven-exactly, agrees-exactly, differs-exactly}
use Rattle.held_lines.specs.Lines.{lines_held}
use Rattle.held_lines.specs.declared.HeldLines.{HeldLines}
use Rattle.settling.specs.Statements.{SettleSays}
use Rattle.settling.specs.declared.Settlement.{Settlement}
use Rattle.ledger.specs.Statements.{BillingSays}

marks-by : (marks : List ℕ) (name : ℕ) (a : Report) → marks_after marks name a ≡ (if accepts a then set marks name 1 else marks)
unfolding marks_after accepts
marks-by marks name accept = refl
marks-by marks name already = refl
marks-by marks name (refuse r) = refl

module _ (o : Order) (plan marks : List ℕ) (rec : Record) (held : HeldLines) (name : ℕ) (r : Settlement) (marks' : List ℕ) where
  abbrev lines : List Line
  lines = lines_held held

  -- nothing changes
  pub billing-left : (b : Report) → b ≡ billing o plan marks rec lines name → accepts b ≡ false → report_of r.answer ≡ b
      → r.running ≡ rec → r.at ≡ held.count → r.line ≡ no_line → marks' ≡ marks → BillingSays o plan marks name rec held r marks'
  unfolding then_marks then_record
  billing-left b is not_so a k i l m =
      let same : accepts (billing o plan marks rec lines name) ≡ false = ap accepts (sym is) ∙ not_so in
      record { answers = a ∙ is; marks_then = m ∙ rw same; leaves = k ∙ rw same; place = i ∙ rw same; line_then = l ∙ rw same }

  -- the record disagrees
  pub billing-differs : differs ≡ agreement o plan marks rec lines → refuse paper.disagrees ≡ billing o plan marks rec lines name
  unfolding billing
  billing-differs h =
      let d = (differs-exactly o plan marks rec lines).0 (sym h) in
      sym (rw (d.0, (differ-exactly o plan marks rec lines).1 d.1))

  pub billing-refused : (x : paper.Refusal) → refused x ≡ agreement o plan marks rec lines → refuse x ≡ billing o plan marks rec lines name
  unfolding billing agreement
  billing-refused x h =
      by-option (up_to_eleven o plan marks)
      (λ u. by_cases (agree o plan marks rec lines)
      (λ a. let k = rw (u, a) at h in absurd (not-both refl (ap is_refused (sym k))))
      (λ a. let k = rw (u, a) at h in absurd (not-both refl (ap is_refused (sym k)))))
      (λ y u. let k = rw u at h in rw u (ap refuse (refused-same k)))
    where
      is_refused : Rattle.bills.specs.Answering.Agreement → Bool
      is_refused agrees = true
      is_refused differs = true
      is_refused (refused z) = false

      inside : Rattle.bills.specs.Answering.Agreement → paper.Refusal
      inside agrees = paper.size
      inside differs = paper.size
      inside (refused z) = z

      refused-same : {y z : paper.Refusal} → refused y ≡ refused z → y ≡ z
      refused-same k = ap inside k

  -- all agree: the rest tells
  pub billing-settled : agrees ≡ agreement o plan marks rec lines → SettleSays plan marks name rec held r marks'
      → BillingSays o plan marks name rec held r marks'
  unfolding billing then_marks then_record
  billing-settled h s =
      let f = (agrees-exactly o plan marks rec lines).0 (sym h) in
      let ok = (eleven-exactly o plan marks).0 f.0 in
      let xs = crossings plan in
      let yes = (agree-exactly o plan marks rec lines).1 f.1 in
      let is : billing o plan marks rec lines name ≡ told_in_order xs marks name = rw (f.0, yes) (told-on xs marks name ok.1) in
      record {
        answers = s.answers ∙ sym is;
        marks_then = s.marks_then ∙ marks-by marks name (told_in_order xs marks name) ∙ rw is;
        leaves = by_cases (accepts (told_in_order xs marks name)) (λ a. (s.changed a).0 ∙ rw (is, a)) (λ a. (s.unchanged a).0 ∙ rw (is, a));
        place = by_cases (accepts (told_in_order xs marks name)) (λ a. (s.changed a).1 ∙ rw (is, a)) (λ a. (s.unchanged a).1 ∙ rw (is, a));
        line_then = by_cases (accepts (told_in_order xs marks name)) (λ a. (s.changed a).2 ∙ rw (is, a)) (λ a. (s.unchanged a).2 ∙ rw (is, a));
      }
