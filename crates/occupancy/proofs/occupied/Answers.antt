use Rattle.std.proofs.Common.{refl, arith}
use Rattle.occupancy.proofs.Standing.{occupying-none, occupying-more, occupying-all}
use Rattle.occupancy.proofs.occupied.Goals as goal

pub loop-bay-init : goal.loop-bay-init
loop-bay-init c = occupying-none _ _ _ c.clear.ensures

pub loop-bay-preserved : goal.loop-bay-preserved
loop-bay-preserved c = occupying-more _ _ c.loop-bay.bay-index _ _ _ (omega arith) refl c.loop-bay.invariant c.occupy.ensures

pub returns : goal.returns
returns c = occupying-all _ _ c.loop-bay.bay-index _ (omega arith) c.loop-bay.invariant
