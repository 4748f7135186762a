use Rattle.paper.specs.Yard.{crossings}
use Rattle.dropping.proofs.Noting.{NoneLeaves}
use Rattle.dropping.proofs.last_leaving.Given as goal

abbrev pub invariant-loop-m : goal.invariant-loop-m
invariant-loop-m l = NoneLeaves l.gone (crossings l.plan) l.x.to.0 l.name l.m
