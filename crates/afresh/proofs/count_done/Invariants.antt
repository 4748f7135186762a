use Rattle.afresh.proofs.Passing.{Counting}
use Rattle.afresh.proofs.count_done.Given as goal

abbrev pub invariant-loop-i : goal.invariant-loop-i
invariant-loop-i l = Counting l.plan l.marks l.done l.i
