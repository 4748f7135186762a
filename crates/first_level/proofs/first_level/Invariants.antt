-- No level before j has one of the bays.
use Rattle.std.proofs.Common.{◌-◌, ◌*◌, length}
use Rattle.words.specs.Sets.{words}
use Rattle.first_level.proofs.Missing.{Missed}
use Rattle.first_level.proofs.first_level.Given as goal

abbrev pub invariant-loop-j : goal.invariant-loop-j
invariant-loop-j l = Missed l.n l.table l.middle l.bays l.j

abbrev pub decreases-loop-j : goal.decreases-loop-j
decreases-loop-j l = length l.table - l.j * l.n * words
