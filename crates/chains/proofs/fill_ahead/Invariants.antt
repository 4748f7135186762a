use Rattle.chains.proofs.Filling.{FillingUp}
use Rattle.chains.proofs.fill_ahead.Given as goal

abbrev pub invariant-loop-m : goal.invariant-loop-m
invariant-loop-m l = FillingUp l.plan l.links l.entering l.moving l.m
