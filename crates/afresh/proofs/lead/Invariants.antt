use Rattle.afresh.proofs.Leading.{Leading}
use Rattle.afresh.proofs.lead.Given as goal

abbrev pub invariant-loop-c : goal.invariant-loop-c
invariant-loop-c l = Leading l.plan l.last l.initial.at l.at l.c
