use Rattle.replay.proofs.Walking.{OccupiedTo}
use Rattle.replay.proofs.occupy.Given as goal

abbrev pub invariant-loop-bay : goal.invariant-loop-bay
invariant-loop-bay l = OccupiedTo l.at l.occupied l.bay-index
