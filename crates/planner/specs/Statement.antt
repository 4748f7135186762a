-- What the planner promises: its answer and what it leaves in the lent list are the paper's, and a plan handed out is legal, ends at the
-- goals and passes the check.
-- Assumes nothing.
use Rattle.std.specs.Prelude.{◌≡◌, true, List, ℕ, length, take, Err, Ok}
use Rattle.std.proofs.Math.Option.{none}
use Rattle.paper.specs.Yard.{crossings, after, legal_plan}
use Rattle.paper.specs.Order.{Order}
use Rattle.paper.specs.Docket.{yard_of}
use Rattle.paper.specs.Answers.{plan, plan_parked, plan_end, check}
use Rattle.docket.specs.Reading.{refusal_of}
pub use Rattle.rooms.specs.FromBelow.{PlanTold, long, denied, told, parked_by}
use Rattle.rooms.specs.FromBelow.{Counted}
use Rattle.planner.specs.Planned.{Planned}

abbrev pub planned_of : Planned → PlanTold
planned_of (Ok m) = long m
planned_of (Err r) = denied (refusal_of r)

-- the answer without the count
abbrev pub uncounted : Counted → Planned
uncounted (Ok (m, k)) = Ok m
uncounted (Err r) = Err r

pub record PlanSays (o : Order) (lent : List ℕ) (answer : Planned) (lent' : List ℕ) : Type 0 where
  pub answers : planned_of answer ≡ told (plan o (length lent))
  pub leaves : lent' ≡ plan_end o lent
  pub legal : (m : ℕ) → answer ≡ Ok m → legal_plan (yard_of o) o.starts (crossings (take m lent')) ≡ true
  pub home : (m : ℕ) → answer ≡ Ok m → after o.starts (crossings (take m lent')) ≡ o.goals
  pub passes : (m : ℕ) → answer ≡ Ok m → check o (take m lent') ≡ none

-- The same with the count: it is what the paper's planner carries.
pub record CountSays (o : Order) (lent : List ℕ) (answer : Counted) (lent' : List ℕ) : Type 0 where
  pub says : PlanSays o lent (uncounted answer) lent'
  pub parks : parked_by answer ≡ plan_parked o (length lent)
