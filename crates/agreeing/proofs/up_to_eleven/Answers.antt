-- `agreeing::up_to_eleven` meets its contract. Each way out is one law of proofs/Refusing.
use Rattle.std.proofs.Common.{sym, ◌∙◌}
use Rattle.std.proofs.lemmas.Result.{err_from_is_err_and}
use Rattle.paper.specs.Order.{order}
use Rattle.agreeing.proofs.Refusing.{eleven-refused, eleven-marks, eleven-none, check-gives-fits}
use Rattle.agreeing.proofs.up_to_eleven.Goals as goal

pub returns-in_err-check : goal.returns-in_err-check
returns-in_err-check c =
    let p = err_from_is_err_and c.from_residual.result c.from_residual.ensures.1 in
    rw (p.1, p.2) (eleven-refused (order c.args.bays c.args.rails.now c.args.start.now c.args.goal.now) c.args.plan.now c.args.marks.now _ c.in_err-check.ensures)

pub bad_marks-requires : goal.bad_marks-requires
bad_marks-requires c =
    check-gives-fits (order c.args.bays c.args.rails.now c.args.start.now c.args.goal.now) c.args.plan.now c.args.marks.now c.in_ok-check.ensures

pub returns-then-bad_marks : goal.returns-then-bad_marks
returns-then-bad_marks c =
    eleven-marks (order c.args.bays c.args.rails.now c.args.start.now c.args.goal.now) c.args.plan.now c.args.marks.now c.in_ok-check.ensures (sym c.bad_marks.ensures ∙ c.if-bad_marks.true)

pub returns : goal.returns
returns c =
    eleven-none (order c.args.bays c.args.rails.now c.args.start.now c.args.goal.now) c.args.plan.now c.args.marks.now c.in_ok-check.ensures (sym c.bad_marks.ensures ∙ c.if-bad_marks.false)
