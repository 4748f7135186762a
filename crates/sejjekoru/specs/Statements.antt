-- What each exported function promises for every input: its two numbers and what stands in the lent list at the end, each equal to the paper's.
-- Assumes nothing.
use Rattle.std.specs.Prelude.{◌≡◌, List, ℕ, length}
use Rattle.paper.specs.Order.{Order}
use Rattle.paper.specs.Answers.{plan, plan_parked, plan_end, check, slots_refusal, slots_end, report, marks_end, told as verdict}
use Rattle.planner.specs.Statement.{told}
use Rattle.trips.specs.Shortening.{shortening, shortening_end}
use Rattle.numbers.specs.Tells.{Tells}
use Rattle.numbers.specs.Numbers.{number_of, value_of, verdict_number, verdict_value, report_number, report_value}
use Rattle.plan_numbers.specs.Planned.{plan_number, plan_value}

-- the two numbers are the due ones, and so is what stands in the lent list
pub record TellsAndLeaves (due due-value : ℕ) (due-list : List ℕ) (number value : ℕ) (list : List ℕ) : Type 0 where
  pub tells : Tells due due-value number value
  pub leaves : list ≡ due-list

module _ (o : Order) where
  -- the two numbers of planning, the list, and how many vacates of the plan, undoing left aside, filled a bay of three rails or more
  pub record PlanTells (lent : List ℕ) (number parked value : ℕ) (list : List ℕ) : Type 0 where
    pub tells : Tells (plan_number (told (plan o (length lent)))) (plan_value (told (plan o (length lent)))) number value
    pub parks : parked ≡ plan_parked o (length lent)
    pub leaves : list ≡ plan_end o lent

  abbrev pub CheckTells : List ℕ → ℕ → ℕ → Type 0
  CheckTells crossed =
      let answer = check o crossed in
      Tells (number_of answer) (value_of 0 answer)

  -- the length written is the plan's
  abbrev pub SlotsTell : List ℕ → List ℕ → ℕ → ℕ → List ℕ → Type 0
  SlotsTell crossed slots =
      let answer = slots_refusal o crossed (length slots) in
      TellsAndLeaves (number_of answer) (value_of (length crossed) answer) (slots_end o crossed slots)

  abbrev pub ReportTells : List ℕ → List ℕ → ℕ → ℕ → ℕ → List ℕ → Type 0
  ReportTells crossed marks name =
      let answer = report o crossed marks name in
      TellsAndLeaves (report_number answer) (report_value answer) (marks_end o crossed marks name)

  abbrev pub ShortenTells : List ℕ → List ℕ → List ℕ → ℕ → ℕ → List ℕ → Type 0
  ShortenTells crossed marks out =
      let answer = verdict (shortening o crossed marks (length out)) in
      TellsAndLeaves (verdict_number answer) (verdict_value answer) (shortening_end o crossed marks out)
