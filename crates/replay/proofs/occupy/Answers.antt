use Rattle.std.proofs.Common.{arith}
use Rattle.replay.proofs.Walking.{occupied-more, occupied-all}
use Rattle.replay.proofs.occupy.Goals as goal

pub loop-bay-preserved : goal.loop-bay-preserved
loop-bay-preserved c =
    let t = c.loop-bay in
    occupied-more c.args.at.now t.occupied t.bay-index c.loop-bay-test.true (c.requires.0 t.bay-index c.loop-bay-test.true) t.invariant

pub returns : goal.returns
returns c = let t = c.loop-bay in occupied-all c.args.at.now t.occupied t.bay-index (omega arith) c.loop-bay-test.false t.invariant
