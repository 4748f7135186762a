-- `link_calls::over` meets its contract.
use Rattle.std.proofs.Common.{sym, rules}
use Rattle.link.proofs.Calling.{over-good, over-bad}
use Rattle.link_calls.proofs.over.Goals as goal

pub returns-in-Ok : goal.returns-in-Ok
returns-in-Ok c =
    let reading = c.reading in
    over-good c.args.link (search rules) (search rules) _ _ reading.ensures c.finish-r.ensures _ c.answer-found.ensures _ c.in-Ok.is

pub returns-in-Err : goal.returns-in-Err
returns-in-Err c =
    let reading = c.reading in
    over-bad c.args.link (search rules) (search rules) _ _ reading.ensures c.finish-r.ensures _ c.answer-found.ensures _ c.in-Err.is
