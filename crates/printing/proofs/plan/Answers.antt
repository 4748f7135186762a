-- The cost goes where the actions ended; a plan over the limit is printed as refusal 8.
use Rattle.stores.proofs.Stores.{wrote_then}
use Rattle.printing.proofs.Lines.{plan-parts, plan-over}
use Rattle.printing.proofs.plan.Goals as goal

pub returns-then-crossings-le-CROSSINGS : goal.returns-then-crossings-le-CROSSINGS
returns-then-crossings-le-CROSSINGS c =
    let if1 = c.if-crossings-le-CROSSINGS in
    rw (← plan-parts c.args.plan.now if1.true) (wrote_then c.actions-end.ensures.0 c.cost.ensures)

pub returns : goal.returns
returns c = rw (plan-over c.args.plan.now c.if-crossings-le-CROSSINGS.false) c.refusal.ensures.0
