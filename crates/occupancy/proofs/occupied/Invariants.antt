use Rattle.occupancy.proofs.Standing.{Occupying}
use Rattle.occupancy.proofs.occupied.Given as goal

-- the set holds the bays, of n, of the carriers passed
abbrev pub invariant-loop-bay : goal.invariant-loop-bay
invariant-loop-bay l = Occupying l.n l.place l.bay-index l.set
