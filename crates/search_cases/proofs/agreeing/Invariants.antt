-- No more cases agree than were run.
use Rattle.std.proofs.Common.{◌≤◌}
use Rattle.search_cases.proofs.agreeing.Given as goal

abbrev pub invariant-loop-i : goal.invariant-loop-i
invariant-loop-i g l = l.agree ≤ l.i-counter
