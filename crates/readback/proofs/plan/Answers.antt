-- `readback::plan` meets its contract, by what the first reading found.
use Rattle.std.proofs.Common.{rules}
use Rattle.readback.proofs.Giving.{plan-bad, plan-over, plan-gives}
use Rattle.readback.proofs.plan.Goals as goal

pub returns-then-count-gt-CROSSINGS : goal.returns-then-count-gt-CROSSINGS
returns-then-count-gt-CROSSINGS c =
    plan-over c.args.file.now c.args.out.now c.fold-found.ensures c.in-Ok.count c.in-Ok.is c.if-count-gt-CROSSINGS.true

pub returns-else-count-gt-CROSSINGS : goal.returns-else-count-gt-CROSSINGS
returns-else-count-gt-CROSSINGS c =
    let fold = c.fold-found in
    plan-gives c.args.file.now c.args.out.now fold.ensures c.in-Ok.count c.in-Ok.is c.if-count-gt-CROSSINGS.false c.give.ensures

pub returns-in-Err : goal.returns-in-Err
returns-in-Err c =
    plan-bad c.args.file.now c.args.out.now c.fold-found.ensures c.in-Err.line c.in-Err.is
