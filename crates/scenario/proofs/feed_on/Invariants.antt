-- The bytes passed came, and their carriers are stored.
use Rattle.std.proofs.Common.{take}
use Rattle.scenario.specs.Under.{FeedsOn}
use Rattle.scenario.proofs.feed_on.Given as goal

abbrev pub invariant-loop-b : goal.invariant-loop-b
invariant-loop-b l =
    FeedsOn l.cells l.grid l.initial.at (take l.b-index l.bytes) l.at l.initial.starts l.starts l.initial.goals l.goals
