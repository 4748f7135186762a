-- `link_calls::begin` meets its contract.
use Rattle.std.proofs.Common.{refl, rules}
use Rattle.link.proofs.Calling.{begin-bad, begin-good}
use Rattle.link_calls.proofs.begin.Goals as goal

pub returns-in-Ok : goal.returns-in-Ok
returns-in-Ok c =
    begin-good c.read-found.ensures c.args.link _ c.in-Ok.is refl _ c.start.ensures _ c.keep.ensures

pub returns-in-Err : goal.returns-in-Err
returns-in-Err c = begin-bad c.read-found.ensures c.args.link _ c.in-Err.is
