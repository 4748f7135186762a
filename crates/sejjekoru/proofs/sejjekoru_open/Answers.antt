-- Opening by value says how many lines it holds, so they may be laid over the lent ones, and what stands there then.
use Rattle.sejjekoru.proofs.Opened.{may-fill, open-tells}
use Rattle.sejjekoru.proofs.sejjekoru_open.Goals as goal

pub fill-requires : goal.fill-requires
fill-requires c = may-fill _ _ _ _ _ _ _ c.open_on-opening.ensures

pub returns : goal.returns
returns c = open-tells _ _ _ _ _ _ _ c.open_on-opening.ensures _ c.fill.ensures
