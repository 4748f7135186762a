-- What the test by value tells of lines that are held so, it tells of the lent ones, which were gathered.
use Rattle.sejjekoru.proofs.sejjekoru_agrees.Goals as goal

pub returns : goal.returns
returns c = c.agrees_on.ensures _ c.gather-held.ensures
