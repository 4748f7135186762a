use Rattle.std.proofs.Common.{[], ◌∷◌, ◌+◌, ◌*◌}
use lib.Count.{count_trailing_zeros}
use Rattle.words.specs.Sets.{Beside}
use Rattle.words.proofs.Besides.{Rest}
use Rattle.apart.proofs.beside_word.Given as goal

-- what is left of the word are its bays from the lowest bit on, and the rows of all bays below that bit are found
abbrev pub invariant-loop-left : goal.invariant-loop-left
invariant-loop-left l = record {
  rest : Rest l.table (l.ring ∷ []) 0 l.left;
  found : Beside l.table (l.ring ∷ []) (l.next ∷ []) (0 * 64 + count_trailing_zeros 64 l.left);
}

abbrev pub decreases-loop-left : goal.decreases-loop-left
decreases-loop-left l = l.left
