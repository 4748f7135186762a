use Rattle.std.proofs.Common.{◌+◌, ◌*◌, bit_and, get_or}
use Rattle.words.specs.Sets.{words}
use Rattle.words.proofs.Loops.{Done, Left}
use Rattle.rings.proofs.meet_row.Given as goal

abbrev pub invariant-loop-k : goal.invariant-loop-k
invariant-loop-k l =
    Done l.set l.k (λ j. bit_and (get_or l.initial.set j 0) (get_or l.rows (l.i * words + j) 0)) × Left l.set l.k (λ j. get_or l.initial.set j 0)
