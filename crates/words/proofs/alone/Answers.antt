-- Done for all words, it is done for all bays.
use Rattle.std.proofs.Common.{arith}
use Rattle.words.proofs.Loops.{done_none, done_more, alone-all}
use Rattle.words.proofs.alone.Goals as goal

pub loop-i-init : goal.loop-i-init
loop-i-init c = done_none _ _

pub loop-i-preserved : goal.loop-i-preserved
loop-i-preserved c = done_more _ _ _ _ c.loop-i.invariant (omega arith) c.bit_of.ensures

pub returns : goal.returns
returns c = alone-all _ _ (omega arith) (omega arith) _ (omega arith) c.loop-i.invariant
