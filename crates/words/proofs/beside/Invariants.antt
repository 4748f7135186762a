-- Word by word: what is gathered is what the rows of the bays below hold.
use Rattle.std.proofs.Common.{◌*◌}
use Rattle.words.specs.Sets.{Beside}
use Rattle.words.proofs.beside.Given as goal

abbrev pub invariant-loop-i : goal.invariant-loop-i
invariant-loop-i l = Beside l.table l.set l.all (l.i * 64)
