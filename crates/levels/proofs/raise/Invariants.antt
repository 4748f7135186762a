use Rattle.levels.specs.Raising.{Raised}
use Rattle.levels.proofs.raise.Given as goal

abbrev pub invariant-loop-top : goal.invariant-loop-top
invariant-loop-top l = Raised l.n l.top l.initial.table l.table
