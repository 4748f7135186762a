-- `line_entries::report_entry` meets its contract.
use Rattle.std.proofs.Common.{sym, ◌∙◌}
use Rattle.line_entries.proofs.Numbers.{name-yes, name-no}
use Rattle.line_entries.proofs.report_entry.Goals as goal

pub returns-in_default : goal.returns-in_default
returns-in_default c = name-no _ (sym c.in_default.is ∙ c.number.ensures)

pub returns : goal.returns
returns c = name-yes c.args.line.now c.in-Some.name (sym c.in-Some.is ∙ c.number.ensures)
