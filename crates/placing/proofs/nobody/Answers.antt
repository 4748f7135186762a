use Rattle.std.proofs.Common.{◌≡◌, length, arith}
use Rattle.placing.proofs.Placing.{nobody-none, nobody-more}
use Rattle.placing.proofs.nobody.Goals as goal

pub loop-b-init : goal.loop-b-init
loop-b-init c = nobody-none _ _ _

pub loop-b-preserved : goal.loop-b-preserved
loop-b-preserved c = nobody-more _ _ _ _ _ (omega arith) c.loop-b.invariant c.add.ensures

pub returns : goal.returns
returns c = let all : c.loop-b.b ≡ length c.args.standing.now = omega arith in rw all at c.loop-b.invariant
