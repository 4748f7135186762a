-- `readers::read_map` meets its contract.
use Rattle.std.proofs.Common.{arith, rules}
use Rattle.readers.proofs.Whole.{map-bad, mapped-as, laying-by}
use Rattle.laying.proofs.Saying.{lay-bad, lay-as}
use Rattle.readers.proofs.read_map.Goals as goal

pub returns-in-Ok : goal.returns-in-Ok
returns-in-Ok c =
    let read = c.read-found in
    lay-as (laying-by (mapped-as read.ensures c.in-Ok.is (omega arith))) c.lay.ensures

pub returns-in-Err : goal.returns-in-Err
returns-in-Err c = lay-bad _ _ (map-bad c.read-found.ensures _ c.in-Err.is)
