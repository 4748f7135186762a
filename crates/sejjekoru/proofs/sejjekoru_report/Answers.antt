-- `sejjekoru::sejjekoru_report` meets its contract. The answer is the paper's, so what is told of the one is told of the other.
use Rattle.std.proofs.Common.{rules}
use Rattle.numbers.specs.Numbers.{report_number, report_value}
use Rattle.sejjekoru.proofs.Saying.{told-as}
use Rattle.sejjekoru.proofs.sejjekoru_report.Goals as goal

pub returns : goal.returns
returns c = let says = c.report-answer.ensures in record { tells = told-as report_number report_value says.answers c.told_reported.ensures; leaves = says.leaves }
