use Rattle.remaining.proofs.Counting.{Counted}
use Rattle.remaining.proofs.count_left.Given as goal

abbrev pub invariant-loop-byte : goal.invariant-loop-byte
invariant-loop-byte l = Counted l.gone l.n l.byte-index
