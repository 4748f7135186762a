use Rattle.std.proofs.Common.{◌<◌}
use Rattle.paper.specs.Limits.{most_bays}
use Rattle.chains.proofs.Filling.{down-start, down-next, in-tables}
use Rattle.chains.proofs.fill_behind.Goals as goal
use Rattle.chains.proofs.fill_behind.Goals.{After-crossing_at-x}

-- the crossing at hand is within the table
small : (c : After-crossing_at-x) → let x = c.crossing_at-x.result in (x.carrier.0 < most_bays) × (x.from.0 < most_bays) × (x.to.0 < most_bays)
small c = in-tables c.args.plan.now c.loop-m.m c.crossing_at-x.result c.requires.fill_asks.fits c.loop-m-test.true c.crossing_at-x.ensures

pub loop-m-init : goal.loop-m-init
loop-m-init c = down-start _ _ c.requires.fill_asks.long c.requires.ahead

pub bounds-leaving-to : goal.bounds-leaving-to
bounds-leaving-to c = (small (goal.at.bounds-leaving-to c).After-crossing_at-x).2

pub bounds-leaving-from : goal.bounds-leaving-from
bounds-leaving-from c = (small (goal.at.bounds-leaving-from c).After-crossing_at-x).1

pub bounds-leaving-from-in-loop-m : goal.bounds-leaving-from-in-loop-m
bounds-leaving-from-in-loop-m c = (small (goal.at.bounds-leaving-from-in-loop-m c).After-crossing_at-x).1

pub loop-m-preserved : goal.loop-m-preserved
loop-m-preserved c = down-next c.crossing_at-x.result c.requires.fill_asks.fits c.loop-m-test.true c.crossing_at-x.ensures c.loop-m.invariant
