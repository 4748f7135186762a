-- Each word passed has x's bit too, if x is in it; what is not passed is as it was.
use Rattle.std.proofs.Common.{get_or, bit_or}
use Rattle.words.specs.Sets.{bit_of}
use Rattle.words.proofs.Loops.{Done, Left}
use Rattle.words.proofs.join.Given as goal

abbrev pub invariant-loop-i : goal.invariant-loop-i
invariant-loop-i l = record { done : Done l.ws l.i (λ k. bit_or (get_or l.initial.ws k 0) (bit_of l.x k)); left : Left l.ws l.i (λ k. get_or l.initial.ws k 0) }
