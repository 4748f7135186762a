-- `filing::read_scenario` meets its contract, as `read_map` does.
use Rattle.std.proofs.Common.{rules}
use Rattle.filing.proofs.Joining.{scenario-there, scenario-missing}
use Rattle.filing.proofs.read_scenario.Goals as goal

pub returns-then-readable : goal.returns-then-readable
returns-then-readable c = scenario-there c.if-readable.true c.read.ensures

pub returns : goal.returns
returns c =
    scenario-missing c.args.scenario.now c.args.cells.now c.args.starts.now c.args.goals.now c.args.grid c.if-readable.false
