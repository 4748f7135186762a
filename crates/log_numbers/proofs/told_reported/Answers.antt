-- A refusal is told as `numbers::refused` tells it; the rest is read off.
use Rattle.std.proofs.Common.{rules}
use Rattle.marks.specs.Reading.{report_of}
use Rattle.numbers.specs.Numbers.{report_number, report_value}
use Rattle.numbers.proofs.Telling.{told-as}
use Rattle.log_numbers.proofs.told_reported.Goals as goal

pub returns-in-Refused : goal.returns-in-Refused
returns-in-Refused c = told-as (λ x. report_number (report_of x)) (λ x. report_value (report_of x)) c.in-Refused.is c.refused.ensures
