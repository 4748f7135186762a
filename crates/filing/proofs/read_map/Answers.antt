-- `filing::read_map` meets its contract: a file that is there reads as the map's reader reads it, one that is not is bad at line 0.
use Rattle.std.proofs.Common.{rules}
use Rattle.filing.proofs.Joining.{map-there, map-missing}
use Rattle.filing.proofs.read_map.Goals as goal

pub returns-then-readable : goal.returns-then-readable
returns-then-readable c = map-there c.if-readable.true c.read.ensures

pub returns : goal.returns
returns c =
    map-missing c.args.map.now c.args.cells.now c.if-readable.false
