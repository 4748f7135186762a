-- Each word passed has lost the bits of the other; what is not passed is as it was.
use Rattle.std.proofs.Common.{get_or}
use Rattle.words.specs.Sets.{less_word}
use Rattle.words.proofs.Loops.{Done, Left, Fit}
use Rattle.words.proofs.minus.Given as goal

abbrev pub invariant-loop-i : goal.invariant-loop-i
invariant-loop-i l = record {
  done : Done l.a l.i (λ k. less_word (get_or l.initial.a k 0) (get_or l.b k 0));
  left : Left l.a l.i (λ k. get_or l.initial.a k 0);
  fit : Fit l.b l.i;
}
