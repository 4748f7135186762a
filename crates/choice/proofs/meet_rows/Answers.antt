-- Done for all words, it is done for all bays.
use Rattle.std.proofs.Common.{arith, refl}
use Rattle.words.proofs.Loops.{done_none, done_more}
use Rattle.choice.proofs.Taking.{rows-met}
use Rattle.choice.proofs.meet_rows.Goals as goal

pub loop-i-init : goal.loop-i-init
loop-i-init c = done_none _ _

pub loop-i-preserved : goal.loop-i-preserved
loop-i-preserved c = done_more _ _ _ _ c.loop-i.invariant (omega arith) refl

pub returns : goal.returns
returns c = rows-met _ _ _ _ _ c.loop-i.i (omega arith) c.loop-i.invariant
