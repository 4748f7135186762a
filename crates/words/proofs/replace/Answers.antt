-- Done for all words, it is done for all bays.
use Rattle.std.proofs.Common.{arith}
use Rattle.words.proofs.Loops.{done_none, done_more, left-all, left-more, replaced-all}
use Rattle.words.proofs.replace.Goals as goal

pub loop-i-init : goal.loop-i-init
loop-i-init c = record { done = done_none _ _; left = left-all _ }

pub loop-i-preserved : goal.loop-i-preserved
loop-i-preserved c =
    let l = c.loop-i in
    record { done = done_more _ _ _ _ l.invariant.done (omega arith) (rw (l.invariant.left.at l.i (omega arith), c.bit_of-in-loop-i.ensures, c.bit_of.ensures)); left = left-more _ _ _ _ l.invariant.left }

pub returns : goal.returns
returns c = replaced-all _ _ (omega arith) (omega arith) _ (omega arith) _ _ (omega arith) (omega arith) c.loop-i.invariant.done
