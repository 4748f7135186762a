-- The report log: any sequence of reports on one plan.
-- Assumes nothing.
use Rattle.std.specs.Prelude.{List, [], ◌∷◌, map, ℕ, if◌then◌else◌}
use Rattle.paper.specs.Yard.{Crossing, crossings, named}
use Rattle.paper.specs.Order.{Order}
use Rattle.paper.specs.Dependence.{fresh}
use Rattle.paper.specs.Answers.{Report, accepts, report, marks_after}

-- A report comes with a yard, a start and a goal of its own, and a name.
pub record Request : Type 0 where
  pub order : Order
  pub name : ℕ

module _ (plan : List ℕ) where
  abbrev pub answer_to : List ℕ → Request → Report
  answer_to marks q = report q.order plan marks q.name

  abbrev pub marks_by : List ℕ → Request → List ℕ
  marks_by marks q = marks_after marks q.name (answer_to marks q)

  -- the answers, one after the other
  unfoldable pub reports : List ℕ → List Request → List Report
  reports marks [] = []
  reports marks (q ∷ qs) = answer_to marks q ∷ reports (marks_by marks q) qs

  -- the marks at the end
  unfoldable pub marks_from : List ℕ → List Request → List ℕ
  marks_from marks [] = marks
  marks_from marks (q ∷ qs) = marks_from (marks_by marks q) qs

  -- the names accepted, in the order accepted
  unfoldable pub names_from : List ℕ → List Request → List ℕ
  names_from marks [] = []
  names_from marks (q ∷ qs) =
      let rest = names_from (marks_by marks q) qs in if accepts (answer_to marks q) then q.name ∷ rest else rest

  -- from fresh marks: the marks at the end, the names accepted, and their crossings
  abbrev pub marks_of : List Request → List ℕ
  marks_of qs = marks_from (fresh plan) qs

  abbrev pub names_of : List Request → List ℕ
  names_of qs = names_from (fresh plan) qs

  abbrev pub accepted_of : List Request → List Crossing
  accepted_of qs = map (named (crossings plan)) (names_of qs)
