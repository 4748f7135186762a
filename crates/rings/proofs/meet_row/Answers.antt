use Rattle.std.proofs.Common.{arith}
use Rattle.words.proofs.Loops.{done_none, done_more, left-all, left-more}
use Rattle.rings.proofs.Narrowing.{row-met}
use Rattle.rings.proofs.meet_row.Goals as goal

pub loop-k-init : goal.loop-k-init
loop-k-init c = (done_none _ _, left-all _)

pub loop-k-preserved : goal.loop-k-preserved
loop-k-preserved c =
    let l = c.loop-k in
    (done_more _ _ _ _ l.invariant.0 (omega arith) (rw (l.invariant.1.at l.k (omega arith))), left-more _ _ _ _ l.invariant.1)

pub returns : goal.returns
returns c = row-met _ _ _ _ c.loop-k.k (omega arith) c.loop-k.invariant.0
