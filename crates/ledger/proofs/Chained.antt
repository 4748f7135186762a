-- What opening leaves, and reports on it, by their statements alone: nobody has to know how lines are held.
use mathlib.Core.Path.{◌≡◌, ◌∙◌}
use mathlib.Core.List.{List}
use mathlib.Core.Option.{none}
use Prim.Native.Nat.{ℕ}
use lib.ListN.{set}
use Rattle.paper.specs.Order.{Order}
use Rattle.paper.specs.Answers.{report}
use Rattle.paper.proofs.Tests.{none_both}
use Rattle.marks.specs.Reading.{report_of}
use Rattle.bills.specs.Answering.{agrees, up_to_eleven, opening, agreement}
use Rattle.bills.specs.declared.Record.{Record}
use Rattle.bills.proofs.Same.{Afresh}
use Rattle.bills.proofs.Keeping.{eleven-exactly, agrees-exactly, billing-told, reported-afresh}
use Rattle.held_lines.specs.Lines.{lines_held}
use Rattle.ledger.specs.Statements.{agreement_of, OpenSays, BillingSays}
use Rattle.held_lines.specs.declared.HeldLines.{HeldLines}
use Rattle.ledger.specs.declared.Agreement.{Agreement}
use Rattle.ledger.specs.declared.Opening.{Opening}
use Rattle.settling.specs.declared.Settlement.{Settlement}
use Rattle.ledger.proofs.Opened.{opened-afresh}
use Rattle.ledger.proofs.Lent.{settled-held}

module _ (given : Order) (plan marks : List ℕ) where
  -- the test says yes of what opening left
  pub opened-agrees : (rec : Record) (count : ℕ) (o : Opening) → OpenSays given plan marks rec count o → opening given plan marks count ≡ none
      → (a : Agreement) → agreement_of a ≡ agreement given plan marks o.running (lines_held o.held) → agreement_of a ≡ agrees
  unfolding opening
  opened-agrees rec count o s u a h =
      h ∙ (agrees-exactly given plan marks o.running (lines_held o.held)).1
      ((none_both (up_to_eleven given plan marks) _ u).0, opened-afresh given plan marks rec count o s u)

  module _ (passes : up_to_eleven given plan marks ≡ none) (rec : Record) (held : HeldLines) (f : Afresh given.starts plan marks rec (lines_held held)) where
    module _ (name : ℕ) (r : Settlement) (marks' : List ℕ) (s : BillingSays given plan marks name rec held r marks') where
      -- a report on it is never 19: it answers what the report without a record does,
      pub told-as-report : report_of r.answer ≡ report given plan marks name
      told-as-report =
          let e = (eleven-exactly given plan marks).0 passes in
          s.answers ∙ billing-told given plan marks rec (lines_held held) name e.0 e.1 f

      -- and leaves what is worked out afresh from the marks that it leaves, once the one line is set.
      pub left-afresh : Afresh given.starts plan marks' r.running (set (lines_held held) r.at r.line)
      left-afresh =
          let g = reported-afresh given plan marks rec (lines_held held) name f in
          rw (s.marks_then, s.leaves, settled-held given plan marks rec held name r marks' s) g
