use Rattle.chains.proofs.Filling.{FillingDown}
use Rattle.chains.proofs.fill_behind.Given as goal

abbrev pub invariant-loop-m : goal.invariant-loop-m
invariant-loop-m l = FillingDown l.plan l.links l.leaving l.m
