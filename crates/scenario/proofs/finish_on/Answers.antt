-- the line under way ends, and its carrier is stored.
use Rattle.scenario.proofs.Ending.{ends_now}
use Rattle.scenario.proofs.finish_on.Goals as goal

pub returns : goal.returns
returns c =
    let keep = c.keep in
    ends_now c.args.cells.now c.args.grid c.args.s _ c.finished-r.ensures keep.ensures.0 keep.ensures.1
