-- At each turn the best is the choice of all bays below the next.
use Rattle.std.proofs.Common.{◌≡◌, ◌-◌}
use Rattle.words.specs.Sets.{span}
use Rattle.choice.specs.Taking.{rails}
use Rattle.choice.proofs.Taking.{Best}
use Rattle.choice.proofs.of_several.Given as goal

abbrev pub invariant-loop-x : goal.invariant-loop-x
invariant-loop-x l = record { counted : l.fewest ≡ rails l.table l.best; best : Best l.table l.set l.best l.x }

abbrev pub decreases-loop-x : goal.decreases-loop-x
decreases-loop-x l = span - l.x
