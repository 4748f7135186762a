-- The two numbers tell any two answers of planning apart.
-- Assumes nothing.
use mathlib.Core.Path.{◌≡◌, refl}
use Rattle.paper.specs.Docket.{Verdict, granted, denied as verdict_denied}
use Rattle.paper.proofs.Determined.{telling-by}
use Rattle.planner.specs.Statement.{PlanTold, long, denied}
use Rattle.numbers.proofs.Telling.{verdicts-told-apart}
use Rattle.plan_numbers.specs.Planned.{verdict_for, plan_number, plan_value}

pub plans-told-apart : (a b : PlanTold) → plan_number a ≡ plan_number b → plan_value a ≡ plan_value b → a ≡ b
plans-told-apart a b e f = telling-by verdict_for back had-back a b (verdicts-told-apart (verdict_for a) (verdict_for b) e f)
  where
    back : Verdict → PlanTold
    back (granted n) = long n
    back (verdict_denied r) = denied r

    had-back : (a : PlanTold) → back (verdict_for a) ≡ a
    had-back (long n) = refl
    had-back (denied r) = refl
