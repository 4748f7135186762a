-- `program::print_for` meets its contract: what the files ask for stands in the list, and is printed.
use Rattle.std.proofs.Common.{rules}
use Rattle.print_room.proofs.Room.{ready-room}
use Rattle.program.proofs.print_for.Goals as goal

pub print-requires : goal.print-requires
print-requires c = c.answer_for-answer.ensures.slottable.within

pub returns : goal.returns
returns c =
    let ready = c.answer_for-answer.ensures in
    let prints = c.print.ensures in
    (prints.prints _ ready.handed, ready-room ready prints)
