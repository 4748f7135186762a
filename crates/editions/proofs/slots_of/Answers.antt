-- `editions::slots_of` meets its contract. Each way out is one law of proofs/Saying.
use Rattle.std.proofs.Common.{sym, ◌∙◌}
use Rattle.std.proofs.lemmas.Result.{err_from_is_err_and}
use Rattle.paper.specs.Order.{order}
use Rattle.editions.proofs.Saying.{says-unknown, says-refused, says-room, says-written, fits, short}
use Rattle.editions.proofs.slots_of.Goals as goal

pub returns-then-not-fits : goal.returns-then-not-fits
returns-then-not-fits c = says-unknown (order c.args.bays c.args.rails.now c.args.start.now c.args.goal.now) c.args.plan.now c.args.edition (sym c.known-fits.ensures ∙ c.if-not-fits.true) c.args.out.now

pub returns-in_err-check : goal.returns-in_err-check
returns-in_err-check c =
    let p = err_from_is_err_and c.from_residual.result c.from_residual.ensures.1 in
    rw (p.1, p.2) (says-refused (order c.args.bays c.args.rails.now c.args.start.now c.args.goal.now) c.args.plan.now c.args.edition (sym c.known-fits.ensures ∙ c.if-not-fits.false) c.args.out.now _ c.in_err-check.ensures)

pub returns-then-out-plan : goal.returns-then-out-plan
returns-then-out-plan c = says-room (order c.args.bays c.args.rails.now c.args.start.now c.args.goal.now) c.args.plan.now c.args.edition (sym c.known-fits.ensures ∙ c.if-not-fits.false) c.in_ok-check.ensures c.args.out.now c.if-out-plan.true

pub pass-requires : goal.pass-requires
pass-requires c = let known = sym c.known-fits.ensures ∙ c.if-not-fits.false in let passes = c.in_ok-check.ensures in (c.if-out-plan.false, short (order c.args.bays c.args.rails.now c.args.start.now c.args.goal.now) c.args.plan.now c.args.edition known passes, fits (order c.args.bays c.args.rails.now c.args.start.now c.args.goal.now) c.args.plan.now c.args.edition known passes)

pub returns : goal.returns
returns c =
    let if1 = c.if-not-fits in
    let known = c.known-fits in
    says-written (order c.args.bays c.args.rails.now c.args.start.now c.args.goal.now) c.args.plan.now c.args.edition (sym known.ensures ∙ if1.false) c.in_ok-check.ensures c.args.out.now _ c.if-out-plan.false c.pass.ensures
