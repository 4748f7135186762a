use Rattle.afresh.proofs.Working.{Working}
use Rattle.afresh.proofs.bill_done.Given as goal

abbrev pub invariant-loop-i : goal.invariant-loop-i
invariant-loop-i l = Working l.plan l.marks l.name l.at l.billed l.last l.carriers l.bays l.highest l.asked l.i
