use Rattle.levels.specs.Raising.{LevelRaised}
use Rattle.levels.proofs.raise_level.Given as goal

abbrev pub invariant-loop-x : goal.invariant-loop-x
invariant-loop-x l = LevelRaised l.n l.j l.x l.initial.table l.table
