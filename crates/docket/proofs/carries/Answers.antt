-- `docket::carries` meets its contract: it is read off the table's row.
use Rattle.std.proofs.Common.{ap, rules}
use Rattle.docket.specs.Reading.{is_some}
use Rattle.docket.proofs.Telling.{row_read}
use Rattle.docket.proofs.carries.Goals as goal

pub returns-in-Plain : goal.returns-in-Plain
returns-in-Plain c = ap (λ p. is_some p.1) (row_read c.in-Plain.is c.row_of-row.ensures)

pub returns-in-Carrying : goal.returns-in-Carrying
returns-in-Carrying c = ap (λ p. is_some p.1) (row_read c.in-Carrying.is c.row_of-row.ensures)
