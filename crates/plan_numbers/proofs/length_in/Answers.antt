-- `plan_numbers::length_in` meets its contract, answer by answer.
use Rattle.planner.specs.Statement.{planned_of, uncounted}
use Rattle.std.proofs.Common.{sym, ap, rules}
use Rattle.plan_numbers.specs.Planned.{verdict_for}
use Rattle.plan_numbers.proofs.length_in.Goals as goal

pub returns-in-Ok : goal.returns-in-Ok
returns-in-Ok c = sym (ap (λ x. verdict_for (planned_of (uncounted x))) c.in-Ok.is)

pub returns-in-Err : goal.returns-in-Err
returns-in-Err c = sym (ap (λ x. verdict_for (planned_of (uncounted x))) c.in-Err.is)
