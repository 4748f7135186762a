-- What was seen and what is left to look at decide.
use Rattle.std.proofs.Common.{ltb}
use Rattle.begun.proofs.Seeing.{SeenFrom}
use Rattle.begun.proofs.any_set.Given as goal

abbrev pub invariant-loop-m : goal.invariant-loop-m
invariant-loop-m l = SeenFrom (λ x. ltb 0 x) l.marks l.seen l.m-index
