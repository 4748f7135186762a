use Rattle.line_entries.proofs.of_line.Goals as goal

-- `line_entries::of_line` meets its contract.
-- Assumes nothing.

pub returns-then-reports : goal.returns-then-reports
returns-then-reports c = rw c.if-reports.true c.report_entry.ensures

pub returns : goal.returns
returns c = rw c.if-reports.false c.plan_entry.ensures
