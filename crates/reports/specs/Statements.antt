-- What the two public functions promise: the answer, and what stands in the lent list at the end, each equal to the paper's.
-- Assumes nothing.
use Rattle.std.specs.Prelude.{◌≡◌, List, ℕ, length}
use Rattle.paper.specs.Order.{Order}
use Rattle.paper.specs.Answers.{slots_refusal, slots_end, report, marks_end}
use Rattle.checker.specs.Reading.{checked_of}
use Rattle.checker.specs.Checked.{Checked}
use Rattle.marks.specs.Reading.{report_of}
use Rattle.marks.specs.declared.Reported.{Reported}

module _ (o : Order) (plan : List ℕ) where
  pub record SlotsSay (out : List ℕ) (answer : Checked) (out' : List ℕ) : Type 0 where
    pub answers : checked_of answer ≡ slots_refusal o plan (length out)
    pub leaves : out' ≡ slots_end o plan out

  pub record ReportSays (marks : List ℕ) (name : ℕ) (answer : Reported) (marks' : List ℕ) : Type 0 where
    pub answers : report_of answer ≡ report o plan marks name
    pub leaves : marks' ≡ marks_end o plan marks name
