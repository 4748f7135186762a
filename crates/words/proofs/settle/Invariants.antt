-- Each word passed: the ring is what is new in it, and what was seen has it too.
use Rattle.std.proofs.Common.{get_or, bit_or}
use Rattle.words.specs.Sets.{less_word}
use Rattle.words.proofs.Loops.{Done, Left, Fit}
use Rattle.words.proofs.settle.Given as goal

abbrev pub invariant-loop-i : goal.invariant-loop-i
invariant-loop-i l = record {
  ringed : Done l.ring l.i (λ k. less_word (get_or l.next k 0) (get_or l.initial.seen k 0));
  all_seen : Done l.seen l.i (λ k. bit_or (get_or l.initial.seen k 0) (less_word (get_or l.next k 0) (get_or l.initial.seen k 0)));
  left : Left l.seen l.i (λ k. get_or l.initial.seen k 0);
  fit : Fit l.initial.seen l.i;
}
