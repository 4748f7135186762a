use Rattle.chains.specs.Asking.{SkipBackSays}
use Rattle.chains.proofs.skip_back.Given as goal

abbrev pub invariant-loop-m : goal.invariant-loop-m
invariant-loop-m l = SkipBackSays l.plan l.gone l.start l.m

abbrev pub decreases-loop-m : goal.decreases-loop-m
decreases-loop-m l = l.m
