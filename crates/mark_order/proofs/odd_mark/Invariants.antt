use Rattle.mark_order.proofs.Odd.{OddFrom}
use Rattle.mark_order.proofs.odd_mark.Given as goal

abbrev pub invariant-loop-mark : goal.invariant-loop-mark
invariant-loop-mark l = OddFrom l.marks l.odd l.mark-index
