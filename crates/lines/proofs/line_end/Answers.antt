use Rattle.std.proofs.Common.{arith}
use Rattle.lines.proofs.Cut.{end_none, end_more}
use Rattle.lines.proofs.line_end.Goals as goal

pub loop-i-init : goal.loop-i-init
loop-i-init c = end_none c.args.file.now c.args.at

pub loop-i-preserved : goal.loop-i-preserved
loop-i-preserved c =
    end_more c.args.file.now _ c.loop-i.i (omega arith) (omega arith) c.if-file-i-eq10.false c.loop-i.invariant
