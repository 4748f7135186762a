-- `reports::report` meets its contract. Each way out is one law of proofs/Saying; an accepted name has a mark, since marks in order are as many as the crossings.
use Rattle.std.proofs.Common.{sym, ◌∙◌, ap}
use Rattle.paper.specs.Order.{order}
use Rattle.checker.specs.Reading.{checked_of}
use Rattle.reports.proofs.Saying.{fits, has-mark, report-refused, report-told}
use Rattle.reports.proofs.report.Goals as goal

pub returns-in-Err : goal.returns-in-Err
returns-in-Err c = report-refused (order c.args.bays c.args.rails.now c.args.start.now c.args.goal.now) c.args.plan.now c.args.marks.now c.args.name _ (ap checked_of (sym c.in-Err.is) ∙ c.check-checked.ensures)

pub tell-answer-requires : goal.tell-answer-requires
tell-answer-requires c = fits (order c.args.bays c.args.rails.now c.args.start.now c.args.goal.now) c.args.plan.now (ap checked_of (sym c.in_default.is) ∙ c.check-checked.ensures)

pub mark_accepted-requires : goal.mark_accepted-requires
mark_accepted-requires c =
    λ e. has-mark c.args.plan.now c.args.marks.now c.args.name (sym c.tell-answer.ensures ∙ e)

pub returns : goal.returns
returns c =
    let tell = c.tell-answer in
    let check = c.check-checked in
    report-told (order c.args.bays c.args.rails.now c.args.start.now c.args.goal.now) c.args.plan.now (ap checked_of (sym c.in_default.is) ∙ check.ensures) c.args.marks.now c.args.name tell.result _
    tell.ensures c.mark_accepted.ensures
