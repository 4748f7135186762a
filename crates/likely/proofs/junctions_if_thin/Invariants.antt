use Rattle.std.proofs.Common.{◌≤◌}
use Rattle.likely.proofs.junctions_if_thin.Given as goal

-- no bay is counted twice
abbrev pub invariant-loop-a : goal.invariant-loop-a
invariant-loop-a l = l.junctions ≤ l.a
