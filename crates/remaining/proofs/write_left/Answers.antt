use Rattle.std.proofs.Common.{arith}
use Rattle.remaining.proofs.Writing.{writing-inside, writing-next}
use Rattle.remaining.proofs.write_left.Goals as goal

pub bounds-plan-m : goal.bounds-plan-m
bounds-plan-m c = writing-inside _ _ _ c.requires.long _ _ _ c.loop-n.invariant (omega arith)

pub bounds-gone-m : goal.bounds-gone-m
bounds-gone-m c = let h = writing-inside _ _ _ c.requires.long _ _ _ c.loop-n.invariant (omega arith) in omega arith

pub loop-n-smaller : goal.loop-n-smaller
loop-n-smaller c = let h = writing-inside _ _ _ c.requires.long _ _ _ c.loop-n.invariant (omega arith) in omega arith

pub loop-n-preserved : goal.loop-n-preserved
loop-n-preserved c = writing-next _ _ _ c.requires.long _ _ _ c.loop-n.invariant (omega arith) (omega arith) _ c.from-n.ensures
