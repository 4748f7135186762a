-- `placement::placement` meets its contract. Each way out is one law of proofs/Saying.
use Rattle.std.proofs.Common.{sym, ◌∙◌}
use Rattle.std.proofs.lemmas.Result.{err_from_is_err_and}
use Rattle.paper.specs.Order.{order}
use Rattle.placement.proofs.Saying.{says-refused, fits, says-mismarked, says-room, as_many, all_there, says-placed}
use Rattle.placement.proofs.placement.Goals as goal

pub returns-in_err-check : goal.returns-in_err-check
returns-in_err-check c =
    let p = err_from_is_err_and c.from_residual.result c.from_residual.ensures.1 in
    rw (p.1, p.2) (says-refused (order c.args.bays c.args.rails.now c.args.start.now c.args.goal.now) c.args.plan.now c.args.marks.now c.args.at.now _ c.in_err-check.ensures)

pub bad_marks-requires : goal.bad_marks-requires
bad_marks-requires c =
    fits (order c.args.bays c.args.rails.now c.args.start.now c.args.goal.now) c.args.plan.now c.args.marks.now c.args.at.now c.in_ok-check.ensures

pub returns-then-bad_marks : goal.returns-then-bad_marks
returns-then-bad_marks c =
    says-mismarked (order c.args.bays c.args.rails.now c.args.start.now c.args.goal.now) c.args.plan.now c.args.marks.now c.args.at.now c.in_ok-check.ensures (sym c.bad_marks.ensures ∙ c.if-bad_marks.true)

pub returns-then-at-start : goal.returns-then-at-start
returns-then-at-start c =
    says-room (order c.args.bays c.args.rails.now c.args.start.now c.args.goal.now) c.args.plan.now c.args.marks.now c.args.at.now c.in_ok-check.ensures (sym c.bad_marks.ensures ∙ c.if-bad_marks.false) c.if-at-start.true

pub move_done-requires : goal.move_done-requires
move_done-requires c =
    let passes = c.in_ok-check.ensures in
    let b = sym c.bad_marks.ensures ∙ c.if-bad_marks.false in
    (as_many (order c.args.bays c.args.rails.now c.args.start.now c.args.goal.now) c.args.plan.now c.args.marks.now c.args.at.now passes b, all_there (order c.args.bays c.args.rails.now c.args.start.now c.args.goal.now) c.args.plan.now c.args.marks.now c.args.at.now passes b _ c.copy.ensures)

pub returns : goal.returns
returns c =
    let if2 = c.if-at-start in
    let if1 = c.if-bad_marks in
    let bad-marks = c.bad_marks in
    let b = sym bad-marks.ensures ∙ if1.false in
    says-placed (order c.args.bays c.args.rails.now c.args.start.now c.args.goal.now) c.args.plan.now c.args.marks.now c.args.at.now c.in_ok-check.ensures b if2.false _ _ c.copy.ensures c.move_done.ensures
