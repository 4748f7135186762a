-- `reports::slots` meets its contract. Each way out is one law of proofs/Saying.
use Rattle.std.proofs.lemmas.Result.{err_from_is_err_and}
use Rattle.paper.specs.Order.{order}
use Rattle.reports.proofs.Saying.{fits, short, slots_refused, slots-room, slots_written}
use Rattle.reports.proofs.slots.Goals as goal

pub returns-in_err-check : goal.returns-in_err-check
returns-in_err-check c =
    let p = err_from_is_err_and c.from_residual.result c.from_residual.ensures.1 in
    rw (p.1, p.2) (slots_refused (order c.args.bays c.args.rails.now c.args.start.now c.args.goal.now) c.args.plan.now c.args.out.now _ c.in_err-check.ensures)

pub returns-then-out-plan : goal.returns-then-out-plan
returns-then-out-plan c = slots-room (order c.args.bays c.args.rails.now c.args.start.now c.args.goal.now) c.args.plan.now c.in_ok-check.ensures c.args.out.now c.if-out-plan.true

pub slot_pass-requires : goal.slot_pass-requires
slot_pass-requires c =
    let passes = c.in_ok-check.ensures in
    (c.if-out-plan.false, short (order c.args.bays c.args.rails.now c.args.start.now c.args.goal.now) c.args.plan.now passes, fits (order c.args.bays c.args.rails.now c.args.start.now c.args.goal.now) c.args.plan.now passes)

pub returns : goal.returns
returns c =
    slots_written (order c.args.bays c.args.rails.now c.args.start.now c.args.goal.now) c.args.plan.now c.in_ok-check.ensures c.args.out.now _ c.if-out-plan.false c.slot_pass.ensures
