use Rattle.comparing.proofs.Counting.{Counting}
use Rattle.comparing.proofs.count.Given as goal

abbrev pub invariant-loop-number : goal.invariant-loop-number
invariant-loop-number l = Counting l.list l.counts l.number-index
