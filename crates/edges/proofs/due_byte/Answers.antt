-- `edges::due_byte` meets its contract.
use Rattle.std.proofs.Common.{rules}
use Rattle.edges.proofs.due_byte.Goals as goal

pub returns-in-Head : goal.returns-in-Head
returns-in-Head c = rw c.in-Head.is c.word_byte.ensures

pub returns-in-Rails : goal.returns-in-Rails
returns-in-Rails c = rw c.in-Rails.is c.word_byte-in-Rails.ensures
