use Rattle.std.proofs.Common.{arith}
use Rattle.stores.proofs.Stores.{wrote_none, wrote_then}
use Rattle.printing.proofs.Lines.{lines_none, lines_more, lines-short}
use Rattle.printing.proofs.actions.Goals as goal

pub loop-x-init : goal.loop-x-init
loop-x-init c = record { wrote = rw lines_none (wrote_none _ _); short = rw lines_none (omega arith) }

pub loop-x-preserved : goal.loop-x-preserved
loop-x-preserved c =
    let loop = c.loop-x in
    record {
      wrote = rw (lines_more c.args.plan.now loop.x-index (omega arith), ← c.unpack.ensures) (wrote_then loop.invariant.wrote c.action-at.ensures);
      short = lines-short c.args.plan.now loop.x-index (omega arith) (omega (arith, c.type_inv.plan loop.x-index)) loop.invariant.short;
    }
