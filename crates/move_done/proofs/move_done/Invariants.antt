use Rattle.afresh.proofs.Passing.{Moving}
use Rattle.move_done.proofs.move_done.Given as goal

abbrev pub invariant-loop-i : goal.invariant-loop-i
invariant-loop-i l = Moving l.plan l.marks l.initial.at l.at l.i
