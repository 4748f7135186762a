-- Done for all words, it is done for all bays.
use Rattle.std.proofs.Common.{arith}
use Rattle.words.proofs.Loops.{done_none, done_more, left-all, left-more, fit_none, fit-more, minus-all}
use Rattle.words.proofs.minus.Goals as goal

pub loop-i-init : goal.loop-i-init
loop-i-init c = record { done = done_none _ _; left = left-all _; fit = fit_none _ }

pub loop-i-preserved : goal.loop-i-preserved
loop-i-preserved c =
    let l = c.loop-i in
    record {
      done = done_more _ _ _ _ l.invariant.done (omega arith) (rw (l.invariant.left.at l.i (omega arith)));
      left = left-more _ _ _ _ l.invariant.left;
      fit = fit-more _ _ l.invariant.fit (omega arith);
    }

pub returns : goal.returns
returns c = let l = c.loop-i in minus-all _ _ _ _ (omega arith) (omega arith) (omega arith) l.invariant.done l.invariant.fit
