use Rattle.std.proofs.Common.{◌-◌, ◌<◌, arith}
use Rattle.paper.specs.Limits.{most_bays}
use Rattle.chains.proofs.Filling.{up_start, up_next, in-tables}
use Rattle.chains.proofs.fill_ahead.Goals as goal
use Rattle.chains.proofs.fill_ahead.Goals.{After-crossing_at-x}

-- the crossing at hand is within the tables
small : (c : After-crossing_at-x) → let x = c.crossing_at-x.result in (x.carrier.0 < most_bays) × (x.from.0 < most_bays) × (x.to.0 < most_bays)
small c = in-tables c.args.plan.now (c.loop-m.m - 1) c.crossing_at-x.result c.requires.fits (omega (arith, c.loop-m.invariant.within, c.loop-m-test.true)) c.crossing_at-x.ensures

pub loop-m-init : goal.loop-m-init
loop-m-init c = up_start _ _ c.requires.long

pub bounds-entering-from : goal.bounds-entering-from
bounds-entering-from c = (small (goal.at.bounds-entering-from c).After-crossing_at-x).1

pub overflow_sub-links : goal.overflow_sub-links
overflow_sub-links c =
    omega (arith, (c.loop-m.invariant.enters _ (small (goal.at.overflow_sub-links c).After-crossing_at-x).1).low, c.loop-m-test.true)

pub bounds-entering-to : goal.bounds-entering-to
bounds-entering-to c = (small (goal.at.bounds-entering-to c).After-crossing_at-x).2

pub overflow_sub-links-in-loop-m : goal.overflow_sub-links-in-loop-m
overflow_sub-links-in-loop-m c =
    omega (arith, (c.loop-m.invariant.enters _ (small (goal.at.overflow_sub-links-in-loop-m c).After-crossing_at-x).2).low, c.loop-m-test.true)

pub bounds-moving-carrier : goal.bounds-moving-carrier
bounds-moving-carrier c = (small (goal.at.bounds-moving-carrier c).After-crossing_at-x).0

pub overflow_sub-links-in-loop-m-2 : goal.overflow_sub-links-in-loop-m-2
overflow_sub-links-in-loop-m-2 c =
    omega (arith, (c.loop-m.invariant.moves _ (small (goal.at.overflow_sub-links-in-loop-m-2 c).After-crossing_at-x).0).low, c.loop-m-test.true)

pub bounds-entering-to-in-loop-m : goal.bounds-entering-to-in-loop-m
bounds-entering-to-in-loop-m c = (small (goal.at.bounds-entering-to-in-loop-m c).After-crossing_at-x).2

pub bounds-moving-carrier-in-loop-m : goal.bounds-moving-carrier-in-loop-m
bounds-moving-carrier-in-loop-m c = (small (goal.at.bounds-moving-carrier-in-loop-m c).After-crossing_at-x).0

pub loop-m-preserved : goal.loop-m-preserved
loop-m-preserved c =
    up_next c.crossing_at-x.result c.requires.fits (omega (arith, c.loop-m-test.true)) c.crossing_at-x.ensures c.loop-m.invariant
