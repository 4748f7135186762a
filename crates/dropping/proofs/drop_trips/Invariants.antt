use Rattle.chains.specs.Links.{Linked}
use Rattle.dropping.specs.Going.{Going, rank}
use Rattle.dropping.proofs.drop_trips.Given as goal

abbrev pub invariant-loop-name : goal.invariant-loop-name
invariant-loop-name l = record { going : Going l.plan l.gone l.todo l.name; linked : Linked l.plan l.gone l.links }

abbrev pub decreases-loop-name : goal.decreases-loop-name
decreases-loop-name l = rank l.plan l.gone l.name
