-- Each word passed is that of one row and-ed with that of the other.
use Rattle.std.proofs.Common.{◌+◌, ◌*◌, get_or, bit_and}
use Rattle.words.specs.Sets.{words}
use Rattle.words.proofs.Loops.{Done}
use Rattle.choice.proofs.meet_rows.Given as goal

abbrev pub invariant-loop-i : goal.invariant-loop-i
invariant-loop-i l = Done l.both l.i (λ k. bit_and (get_or l.s (l.a * words + k) 0) (get_or l.t (l.b * words + k) 0))
