-- What is left of the word are its bays from the lowest bit on, and the rows of all bays below that bit are found.
use Rattle.std.proofs.Common.{◌+◌, ◌-◌, ◌*◌}
use Rattle.std.specs.Int.Count.{count_trailing_zeros}
use Rattle.words.specs.Sets.{Beside}
use Rattle.words.proofs.Besides.{Rest}
use Rattle.words.proofs.join_word.Given as goal

abbrev pub invariant-loop-left : goal.invariant-loop-left
invariant-loop-left l = record {
  rest : Rest l.table l.set l.i l.left;
  found : Beside l.table l.set l.found (l.i * 64 + count_trailing_zeros 64 l.left);
}

abbrev pub decreases-loop-left : goal.decreases-loop-left
decreases-loop-left l = 64 - count_trailing_zeros 64 l.left
