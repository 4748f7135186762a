use Rattle.std.proofs.Common.{ltb, arith}
use Rattle.begun.specs.Fresh.{any_set}
use Rattle.begun.proofs.Seeing.{seen_start, seen-on, seen_end}
use Rattle.begun.proofs.any_set.Goals as goal

pub loop-m-init : goal.loop-m-init
loop-m-init c = seen_start (λ x. ltb 0 x) c.args.marks.now

pub loop-m-preserved : goal.loop-m-preserved
loop-m-preserved c = seen-on (λ x. ltb 0 x) c.args.marks.now _ _ c.loop-m.invariant (omega arith)

pub returns : goal.returns
unfolding any_set
returns c = seen_end (λ x. ltb 0 x) c.args.marks.now _ _ c.loop-m.invariant (omega arith)
