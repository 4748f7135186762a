use Rattle.leading.proofs.Passing.{Passing}
use Rattle.leading.proofs.equal_leading.Given as goal

abbrev pub invariant-loop-equal : goal.invariant-loop-equal
invariant-loop-equal l = Passing l.first l.second l.equal
