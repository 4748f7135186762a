-- `sejjekoru_print_plan` meets its contract: a plan over the limit is 1, and any other's print is handed over.
use Rattle.std.proofs.Common.{rules}
use Rattle.sejjekoru.proofs.Handed.{plan-tells, plan-over-tells}
use Rattle.sejjekoru.proofs.whole.sejjekoru_print_plan.Goals as goal

pub returns-then-plan-gt-CROSSINGS : goal.returns-then-plan-gt-CROSSINGS
returns-then-plan-gt-CROSSINGS c = plan-over-tells _ _ c.if-plan-gt-CROSSINGS.true c.told.ensures

pub returns : goal.returns
returns c = plan-tells _ _ c.if-plan-gt-CROSSINGS.false c.plan-needed.ensures c.answer.ensures c.told-2.ensures
