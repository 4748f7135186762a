-- `sejjekoru::report_on` meets its contract: what `ledger::report` says, told by numbers.
-- Assumes nothing.
use Rattle.numbers.specs.Numbers.{report_number, report_value}
use Rattle.ledger.proofs.Lent.{settled-of-lent}
use Rattle.sejjekoru.proofs.Saying.{told-as}
use borrow.Author.Rules.{rules}
use Rattle.sejjekoru.proofs.report_on.Statement.{statement}
use Rattle.sejjekoru.proofs.report_on.Tie as tie

report-requires : tie.Need-report-told-requires
report-requires c κs = search rules

told-reported-requires : tie.Need-told_reported-requires
told-reported-requires c κs = search rules

same_length : tie.Need-shape_of-marks
same_length c = search rules

returns : tie.Need-returns
returns c lines e =
    let s = settled-of-lent _ _ _ _ lines _ e _ _ _ c.report-told.ensures in
    record {
      tells = told-as report_number report_value s.answers c.told_reported.ensures;
      marks_then = s.marks_then;
      record_then = s.leaves;
      lines_then = s.lines_then;
    }

pub report_on_spec : {M : Type 1} → statement M
report_on_spec = tie.close (tie.spec report-requires told-reported-requires same_length returns)
