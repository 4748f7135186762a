-- No more cases agree than were run.
use Rattle.std.proofs.Common.{◌≤◌}
use Rattle.log_cases.proofs.count_all.Given as goal

abbrev pub invariant-loop : goal.invariant-loop
invariant-loop g l = l.agree ≤ l.counter
