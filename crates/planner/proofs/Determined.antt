-- Any two answers that the statement allows are equal, and so are what they leave.
-- Assumes nothing.
use Rattle.std.proofs.Common.{Err, Ok}
use mathlib.Core.Path.{◌≡◌, refl, sym, ap, ap₂, ◌∙◌}
use mathlib.Core.List.{List}
use Prim.Native.Nat.{ℕ}
use lib.ListN.{length}
use Rattle.paper.specs.Order.{Order}
use Rattle.paper.specs.Answers.{plan, plan_end}
use Rattle.paper.proofs.Determined.{Determined, telling-by, determined-by}
use Rattle.docket.proofs.Telling.{refusal_for, refusal-back}
use Rattle.planner.specs.Statement.{PlanTold, long, denied, told, planned_of, uncounted, parked_by, PlanSays, CountSays}
use Rattle.rooms.specs.FromBelow.{Counted}
use Rattle.planner.specs.Planned.{Planned}

planned_for : PlanTold → Planned
planned_for (long m) = Ok m
planned_for (denied r) = Err (refusal_for r)

planned-back : (a : Planned) → planned_for (planned_of a) ≡ a
unfolding planned_for
planned-back (Ok m) = refl
planned-back (Err r) = ap Err (refusal-back r)

pub plan-determined : (o : Order) (lent : List ℕ) → Determined (PlanSays o lent)
plan-determined o lent a a' l l' s t =
    determined-by planned_of (telling-by planned_of planned_for planned-back) (told (plan o (length lent))) (plan_end o lent)
    a a' l l' (s.answers, s.leaves) (t.answers, t.leaves)

-- and with the count
counted_for : Planned → ℕ → Counted
counted_for (Ok m) k = Ok (m, k)
counted_for (Err r) k = Err r

counted_back : (a : Counted) → counted_for (uncounted a) (parked_by a) ≡ a
unfolding counted_for
counted_back (Ok (m, k)) = refl
counted_back (Err r) = refl

pub count-determined : (o : Order) (lent : List ℕ) → Determined (CountSays o lent)
count-determined o lent a a' l l' s t =
    let d = plan-determined o lent (uncounted a) (uncounted a') l l' s.says t.says in
    (sym (counted_back a) ∙ ap₂ counted_for d.0 (s.parks ∙ sym t.parks) ∙ counted_back a', d.1)
