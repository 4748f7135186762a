-- Any two answers that a statement allows are equal, and so are what they leave: each answer reads as the paper's in one way only.
use mathlib.Core.Path.{◌≡◌}
use mathlib.Core.List.{List}
use Prim.Native.Nat.{ℕ}
use lib.ListN.{length}
use Rattle.paper.specs.Order.{Order}
use Rattle.paper.specs.Answers.{check, slots_refusal, slots_end, report, marks_end}
use Rattle.paper.proofs.Determined.{Determined, determined-by}
use Rattle.marks.specs.Reading.{report_of}
use Rattle.marks.proofs.Back.{reports-told-apart}
use Rattle.checker.specs.Reading.{checked_of}
use Rattle.checker.specs.Checked.{Checked}
use Rattle.checker.proofs.Back.{checks-told-apart}
use Rattle.reports.specs.Statements.{SlotsSay, ReportSays}

module _ (o : Order) (plan : List ℕ) where
  -- The check, which leaves the plan as it is.
  pub check-determined : Determined (λ (a : Checked) (l : List ℕ). (checked_of a ≡ check o plan) × (l ≡ plan))
  check-determined = determined-by checked_of checks-told-apart (check o plan) plan

  -- Slots.
  pub slots-determined : (out : List ℕ) → Determined (SlotsSay o plan out)
  slots-determined out a a' l l' s t =
      determined-by checked_of checks-told-apart (slots_refusal o plan (length out)) (slots_end o plan out)
      a a' l l' (s.answers, s.leaves) (t.answers, t.leaves)

  -- Report.
  pub report-determined : (marks : List ℕ) (name : ℕ) → Determined (ReportSays o plan marks name)
  report-determined marks name a a' l l' s t =
      determined-by report_of reports-told-apart (report o plan marks name) (marks_end o plan marks name)
      a a' l l' (s.answers, s.leaves) (t.answers, t.leaves)
