use Rattle.std.proofs.Common.{length}
use Rattle.placing.proofs.Placing.{Placing}
use Rattle.placing.proofs.place.Given as goal

abbrev pub invariant-loop-c : goal.invariant-loop-c
invariant-loop-c l = Placing (length l.initial.standing) l.placement l.c l.standing l.empty
