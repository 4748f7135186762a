-- `timed_handing::hand` meets its contract: what is counted without room is what is written with it.
use Rattle.std.proofs.Common.{rules}
use Rattle.timed_handing.proofs.Printing.{hands-room, hands-whole}
use Rattle.timed_handing.proofs.hand.Goals as goal

pub returns-then-out-needed : goal.returns-then-out-needed
returns-then-out-needed c = hands-room c.print_answer-needed.ensures _ c.if-out-needed.true

pub returns : goal.returns
returns c = hands-whole c.print_answer-needed.ensures _ c.if-out-needed.false c.print_answer.ensures
