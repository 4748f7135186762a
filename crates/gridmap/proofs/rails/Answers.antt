use Rattle.std.proofs.Common.{◌*◌, arith}
use Rattle.stores.proofs.Stores.{wrote_none, wrote_then}
use Rattle.gridmap.proofs.RailEnds.{rails-none, rails-more, rails-short}
use Rattle.gridmap.proofs.rails.Goals as goal

pub loop-i-init : goal.loop-i-init
loop-i-init c = record { wrote = rw rails-none (wrote_none _ _); short = omega arith }

pub loop-i-preserved : goal.loop-i-preserved
loop-i-preserved c =
    let loop = c.loop-i in
    let wrote = c.put_rails-at.ensures in
    record {
      wrote = rw rails-more (wrote_then loop.invariant.wrote wrote);
      short = omega (arith, wrote.counted, rails-short c.args.cells.now (c.args.grid.height * c.args.grid.width) c.args.grid.width loop.i);
    }
