-- What is written so far and what is left of the rest are the whole; a dropped crossing is written over.
use Rattle.std.proofs.Common.{◌-◌, length}
use Rattle.remaining.proofs.Writing.{Writing}
use Rattle.remaining.proofs.write_left.Given as goal

abbrev pub invariant-loop-n : goal.invariant-loop-n
invariant-loop-n l = Writing l.plan l.gone l.initial.out l.out l.n l.m

abbrev pub decreases-loop-n : goal.decreases-loop-n
decreases-loop-n l = length l.plan - l.m
