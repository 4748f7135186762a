-- Each word passed is or-ed with the word at its place in the row.
use Rattle.std.proofs.Common.{◌+◌, ◌*◌, get_or, bit_or}
use Rattle.words.specs.Sets.{words}
use Rattle.words.proofs.Loops.{Done, Left}
use Rattle.words.proofs.join_row.Given as goal

abbrev pub invariant-loop-i : goal.invariant-loop-i
invariant-loop-i l = record { done : Done l.acc l.i (λ k. bit_or (get_or l.initial.acc k 0) (get_or l.table (l.a * words + k) 0)); left : Left l.acc l.i (λ k. get_or l.initial.acc k 0) }
