-- The two numbers of planning.
-- Assumes nothing.
use Rattle.std.specs.Prelude.{ℕ}
use Rattle.paper.specs.Docket.{Verdict, granted, denied as verdict_denied}
use Rattle.planner.specs.Statement.{PlanTold, long, denied}
use Rattle.numbers.specs.Numbers.{verdict_number, verdict_value}

-- of planning, whose acceptance is known by the plan's length
abbrev pub verdict_for : PlanTold → Verdict
verdict_for (long written) = granted written
verdict_for (denied r) = verdict_denied r

abbrev pub plan_number : PlanTold → ℕ
plan_number t = verdict_number (verdict_for t)

abbrev pub plan_value : PlanTold → ℕ
plan_value t = verdict_value (verdict_for t)
