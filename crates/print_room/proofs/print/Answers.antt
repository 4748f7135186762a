-- `print_room::print` meets its contract: it prints the plan's part of the list, or the refusal.
use Rattle.std.proofs.Common.{sym, length-take-le, rules}
use Rattle.print_room.proofs.Telling.{plan-prints, refusal-prints}
use Rattle.print_room.proofs.print.Goals as goal

pub slice_bounds-plan-end : goal.slice_bounds-plan-end
slice_bounds-plan-end c =
    sym (length-take-le _ c.args.plan.now (c.requires.inside _ c.in-Ok.is))

pub returns-in-Ok : goal.returns-in-Ok
returns-in-Ok c =
    plan-prints _ c.in-Ok.is c.requires c.plan.ensures

pub returns-in-Err : goal.returns-in-Err
returns-in-Err c = refusal-prints _ c.in-Err.is c.refusal.ensures.0 c.refusal.ensures.1
