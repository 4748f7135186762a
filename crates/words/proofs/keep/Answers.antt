-- Done for all words, it is done for all bays.
use Rattle.std.proofs.Common.{arith}
use Rattle.words.proofs.Loops.{writing-none, writing_more, writing-all}
use Rattle.words.proofs.keep.Goals as goal

pub loop-i-init : goal.loop-i-init
loop-i-init c = writing-none _ _ _

pub loop-i-preserved : goal.loop-i-preserved
loop-i-preserved c = writing_more _ _ _ _ _ c.loop-i.invariant (omega arith) (omega arith)

pub returns : goal.returns
returns c = writing-all _ _ _ _ _ c.loop-i.invariant (omega arith)
