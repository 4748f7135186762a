use Rattle.std.proofs.Common.{arith}
use Rattle.queue.proofs.Words.{lowest-low, filling-room, filling-less, filling-more, filling-all}
use Rattle.queue.proofs.enqueue.Goals as goal

pub bounds-met-c : goal.bounds-met-c
bounds-met-c c = let h = filling-room c.loop-left.invariant (omega arith) c.requires.room in omega arith

pub loop-left-smaller : goal.loop-left-smaller
loop-left-smaller c = filling-less c.loop-left.invariant (omega arith)

pub loop-left-preserved : goal.loop-left-preserved
loop-left-preserved c =
    let l = c.loop-left in
    let h = filling-room l.invariant (omega arith) c.requires.room in
    let low = lowest-low c.args.i l.left (omega arith) l.invariant.fits in
    filling-more l.invariant (omega arith) (omega arith) (omega arith) (omega arith)

pub returns : goal.returns
returns c = filling-all c.loop-left.invariant c.loop-left-test.false
