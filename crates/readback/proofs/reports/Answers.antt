-- `readback::reports` meets its contract, by what the first reading found.
use Rattle.std.proofs.Common.{rules}
use Rattle.readback.proofs.Giving.{reports-bad, reports-give}
use Rattle.readback.proofs.reports.Goals as goal

pub returns-in-Ok : goal.returns-in-Ok
returns-in-Ok c =
    let fold = c.fold-found in
    reports-give c.args.file.now c.args.out.now fold.ensures c.in-Ok.count c.in-Ok.is c.give.ensures

pub returns-in-Err : goal.returns-in-Err
returns-in-Err c =
    reports-bad c.args.file.now c.args.out.now c.fold-found.ensures c.in-Err.line c.in-Err.is
