-- `docket::number` meets its contract: it is read off the table's row.
use Rattle.std.proofs.Common.{ap, rules}
use Rattle.docket.proofs.Telling.{row_read}
use Rattle.docket.proofs.number.Goals as goal

pub returns-in-Plain : goal.returns-in-Plain
returns-in-Plain c = ap (λ p. p.0) (row_read c.in-Plain.is c.row_of-row.ensures)

pub returns-in-Carrying : goal.returns-in-Carrying
returns-in-Carrying c = ap (λ p. p.0) (row_read c.in-Carrying.is c.row_of-row.ensures)
