-- Each word passed of row d is the ring's, and no word of another row is touched.
use Rattle.words.proofs.Loops.{Writing}
use Rattle.words.proofs.keep.Given as goal

abbrev pub invariant-loop-i : goal.invariant-loop-i
invariant-loop-i l = Writing l.initial.rows l.d l.ring l.rows l.i
