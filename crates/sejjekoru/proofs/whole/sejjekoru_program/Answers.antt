-- `sejjekoru_program` meets its contract: what is printed is handed over, and its length is told.
use Rattle.std.proofs.Common.{rules}
use Rattle.sejjekoru.proofs.Handed.{text-tells}
use Rattle.sejjekoru.proofs.whole.sejjekoru_program.Goals as goal

pub returns : goal.returns
returns c = text-tells c.program-needed.ensures c.answer.ensures c.told.ensures
