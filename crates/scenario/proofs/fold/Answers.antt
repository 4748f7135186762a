-- What the bytes leave and what their end makes of it is the reading of the file.
use Rattle.scenario.proofs.Ending.{came-all}
use Rattle.scenario.proofs.fold.Goals as goal

pub returns : goal.returns
returns c =
    came-all c.args.cells.now c.args.grid c.args.file.now _ _ _ c.start.ensures c.feed_on-s.ensures c.finish_on.ensures
