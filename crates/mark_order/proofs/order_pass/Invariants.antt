use Rattle.mark_order.proofs.Ordering.{Ordering}
use Rattle.mark_order.proofs.order_pass.Given as goal

abbrev pub invariant-loop-i : goal.invariant-loop-i
invariant-loop-i l = Ordering l.plan l.marks l.carriers l.bays l.i
