-- What the report by value tells of lines that are held so, it tells of the lent ones, of which the one that changed is entered.
use Rattle.sejjekoru.proofs.sejjekoru_report_billed.Goals as goal

pub returns : goal.returns
returns c = rw c.enter.ensures (c.report_on-told.ensures _ c.gather-held.ensures)
