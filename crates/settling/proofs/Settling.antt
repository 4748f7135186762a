-- A report once all agree, way out by way out.
use mathlib.Core.Path.{◌≡◌, sym, ◌∙◌, ap}
use mathlib.Core.Bool.{true, false}
use mathlib.Core.List.{List}
use Prim.Native.Nat.{ℕ, ◌<◌}
use lib.Dec.{leb}
use lib.ListN.{length}
use borrow.Author.Tests.{leb-true, leb-false}
use Rattle.paper.specs.Yard.{Crossing, crossings}
use Rattle.paper.specs.Answers.{Report, accept, accepts, marks_after}
use Rattle.paper.proofs.Tests.{by_cases, not-both}
use Rattle.marks.specs.Reading.{report_of, told_in_order}
use Rattle.marks.proofs.Telling.{told-unknown}
use Rattle.bills.specs.Billing.{no_line}
use Rattle.bills.specs.declared.Record.{Record}
use Rattle.bills.proofs.Keeping.{accepts-accept}
use Rattle.held_lines.specs.declared.HeldLines.{HeldLines}
use Rattle.settling.specs.Statements.{PostSays, SettleSays}
use Rattle.settling.specs.declared.Settlement.{Settlement}

-- an accepted name is in the plan
pub told-inside : (xs : List Crossing) (marks : List ℕ) (name : ℕ) → accepts (told_in_order xs marks name) ≡ true → name < length xs
unfolding accepts
told-inside xs marks name a =
    by_cases (leb (length xs) name)
    (λ e. not-both a (ap accepts (sym (told-unknown xs marks name (leb-true (length xs) name e)))))
    (λ e. leb-false (length xs) name e)

pub told_named : (xs : List Crossing) (marks : List ℕ) (name : ℕ) → told_in_order xs marks name ≡ accept → name < length xs
unfolding accepts
told_named xs marks name e = told-inside xs marks name (ap accepts e)

module _ (plan marks : List ℕ) (name : ℕ) (rec : Record) (held : HeldLines) (r : Settlement) (marks' : List ℕ) (m : marks' ≡ marks_after marks name (told_in_order (crossings plan) marks name)) where
  pub settle-posted : accepts (told_in_order (crossings plan) marks name) ≡ true → PostSays plan name rec held r → SettleSays plan marks name rec held r marks'
  settle-posted y p = record {
    answers = ap report_of p.answers ∙ sym ((accepts-accept (told_in_order (crossings plan) marks name)).0 y);
    marks_then = m;
    changed = λ a. (p.leaves, p.place, p.line_then);
    unchanged = λ a. not-both y a;
  }

  pub settle-left : (a : Report) → a ≡ told_in_order (crossings plan) marks name → accepts a ≡ false → report_of r.answer ≡ a
      → r.running ≡ rec → r.at ≡ held.count → r.line ≡ no_line → SettleSays plan marks name rec held r marks'
  settle-left a e not_so b k i l = record {
    answers = b ∙ e;
    marks_then = m;
    changed = λ y. not-both y (ap accepts (sym e) ∙ not_so);
    unchanged = λ y. (k, i, l);
  }
