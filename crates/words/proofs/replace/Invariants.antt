-- Each word passed has lost x's bit and has y's; what is not passed is as it was.
use Rattle.std.proofs.Common.{get_or, bit_or}
use Rattle.words.specs.Sets.{bit_of, less_word}
use Rattle.words.proofs.Loops.{Done, Left}
use Rattle.words.proofs.replace.Given as goal

abbrev pub invariant-loop-i : goal.invariant-loop-i
invariant-loop-i l = record { done : Done l.ws l.i (λ k. bit_or (less_word (get_or l.initial.ws k 0) (bit_of l.x k)) (bit_of l.y k)); left : Left l.ws l.i (λ k. get_or l.initial.ws k 0) }
