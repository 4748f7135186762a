use Rattle.std.proofs.Common.{arith}
use Rattle.placing.proofs.Placing.{placing-none, placing-more, placing-all}
use Rattle.placing.proofs.place.Goals as goal

pub loop-c-init : goal.loop-c-init
loop-c-init c = rw c.nobody.auto.standing (placing-none _ _ _ _ c.nobody.ensures)

pub loop-c-preserved : goal.loop-c-preserved
loop-c-preserved c =
    let p = c.requires in
    let l = c.loop-c in
    placing-more _ _ _ _ _ _ p.3 c.loop-c-test.true (omega (arith, p.4 l.c c.loop-c-test.true)) (omega arith) l.invariant c.remove.ensures

pub returns : goal.returns
returns c =
    let p = c.requires in
    placing-all _ _ _ _ _ p.3 p.4 p.2 (omega arith) (rw c.nobody.auto.standing at c.loop-c.invariant)
