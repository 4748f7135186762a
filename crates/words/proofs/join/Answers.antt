-- Done for all words, it is done for all bays.
use Rattle.std.proofs.Common.{arith}
use Rattle.words.proofs.Loops.{done_none, done_more, left-all, left-more, joined-all}
use Rattle.words.proofs.join.Goals as goal

pub loop-i-init : goal.loop-i-init
loop-i-init c = record { done = done_none _ _; left = left-all _ }

pub loop-i-preserved : goal.loop-i-preserved
loop-i-preserved c =
    let l = c.loop-i in
    record { done = done_more _ _ _ _ l.invariant.done (omega arith) (rw (l.invariant.left.at l.i (omega arith), c.bit_of.ensures)); left = left-more _ _ _ _ l.invariant.left }

pub returns : goal.returns
returns c = joined-all _ _ (omega arith) (omega arith) _ (omega arith) _ (omega arith) c.loop-i.invariant.done
