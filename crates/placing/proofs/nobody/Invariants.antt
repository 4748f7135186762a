use Rattle.placing.specs.Nobody.{Nobody}
use Rattle.placing.proofs.nobody.Given as goal

abbrev pub invariant-loop-b : goal.invariant-loop-b
invariant-loop-b l = Nobody l.b l.k l.standing l.empty
