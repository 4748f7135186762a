-- `filing::read_order` meets its contract. The cells that the map leaves are the map's own, so the scenario and the rails by them are too.
use Rattle.std.proofs.Common.{arith, rules}
use Rattle.filing.proofs.Joining.{map-refused, scenario-refused, order-filed}
use Rattle.filing.proofs.read_order.Goals as goal

pub returns-in-Ok-carriers_found : goal.returns-in-Ok-carriers_found
returns-in-Ok-carriers_found c =
    let read-scenario = c.read_scenario-carriers_found in
    let read-map = c.read_map-found in
    order-filed read-map.ensures _ c.in-Ok.is (omega arith) read-scenario.ensures _ _ c.in-Ok-carriers_found.is c.rails-n.ensures

pub returns-in-Err-carriers_found : goal.returns-in-Err-carriers_found
returns-in-Err-carriers_found c =
    let read-map = c.read_map-found in
    scenario-refused read-map.ensures _ c.in-Ok.is (omega arith) c.read_scenario-carriers_found.ensures _ c.args.ends.now c.in-Err-carriers_found.is

pub returns-in-Err : goal.returns-in-Err
returns-in-Err c =
    map-refused c.read_map-found.ensures _ c.args.ends.now c.args.starts.now c.args.goals.now c.in-Err.is
