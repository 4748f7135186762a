-- `settling::is_billed` meets its contract, answer by answer.
use Rattle.std.proofs.Common.{sym, ap, rules}
use Rattle.paper.specs.Answers.{accepts}
use Rattle.marks.specs.Reading.{report_of}
use Rattle.settling.proofs.is_billed.Goals as goal

pub returns-in-Accepted : goal.returns-in-Accepted
unfolding accepts
returns-in-Accepted c = ap (λ a. accepts (report_of a)) (sym c.in-Accepted.is)

pub returns-in-Already : goal.returns-in-Already
unfolding accepts
returns-in-Already c = ap (λ a. accepts (report_of a)) (sym c.in-Already.is)

pub returns-in-Refused : goal.returns-in-Refused
unfolding accepts
returns-in-Refused c = ap (λ a. accepts (report_of a)) (sym c.in-Refused.is)
