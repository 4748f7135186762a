-- `exchange::exchange` meets its contract. The six crossings in their order.
use Rattle.std.proofs.Common.{◌∙◌, rules}
use Rattle.exchange.proofs.Exchanging.{exchanged}
use Rattle.exchange.proofs.exchange.Goals as goal

pub returns : goal.returns
returns c = exchanged c.note-second.ensures c.note-third.ensures c.note-fourth.ensures c.note-fifth.ensures c.note-sixth.ensures c.note.ensures
