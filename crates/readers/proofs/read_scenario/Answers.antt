-- `readers::read_scenario` meets its contract.
use Rattle.std.proofs.Common.{arith, rules}
use Rattle.readers.proofs.Whole.{map-bad, mapped-as, listing-by}
use Rattle.listing.proofs.Saying.{list-unmapped, list-as}
use Rattle.readers.proofs.read_scenario.Goals as goal

pub returns-in-Ok : goal.returns-in-Ok
returns-in-Ok c =
    let read = c.read-found in
    list-as (listing-by (mapped-as read.ensures c.in-Ok.is (omega arith)) c.args.file.now) c.list.ensures

pub returns-in-Err : goal.returns-in-Err
returns-in-Err c =
    list-unmapped c.args.file.now _ _ _ (map-bad c.read-found.ensures _ c.in-Err.is)
