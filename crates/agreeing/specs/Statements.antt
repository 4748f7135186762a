-- What is promised of the refusals up to 11, of the work afresh and of the comparison. Lines come as they are held: the promises read the first `count`
-- of them.
-- Assumes nothing.
use Rattle.std.specs.Prelude.{◌≡◌, Bool, List, ℕ, ◌≤◌, ◌<◌, length}
use Rattle.paper.specs.Basics.{◌and◌}
use Rattle.paper.specs.Limits.{most_bays}
use Rattle.paper.specs.Yard.{Placement, crossings, most_crossings}
use Rattle.paper.specs.OnePass.{Fits}
use Rattle.bills.specs.Billing.{record_of, lines_of}
use Rattle.bills.specs.Answering.{same_record, same_lines}
use Rattle.bills.specs.declared.Record.{Record}
use Rattle.afresh.specs.Working.{SlotOf}
use Rattle.held_lines.specs.Lines.{gathered, lines_held}
use Rattle.held_lines.specs.declared.HeldLines.{HeldLines}
use Rattle.agreeing.specs.declared.Fresh.{Fresh}

-- what is known once the check has passed and the marks are as many as the crossings
pub record Fit (starts : Placement) (plan marks : List ℕ) : Type 0 where
  pub even : length marks ≡ length plan
  pub short : length plan ≤ most_crossings
  pub few : length starts < most_bays
  pub fits : Fits (length starts) most_bays plan

-- whether record and lines are what start, plan and marks give worked out afresh
abbrev pub all_same : Placement → List ℕ → List ℕ → Record → HeldLines → Bool
all_same starts plan marks rec held =
    same_record rec (record_of starts (crossings plan) marks) and same_lines (lines_held held) (lines_of (length starts) (crossings plan) marks)

-- all that is worked out afresh
pub record WorkedOut (starts : Placement) (plan marks : List ℕ) (name : ℕ) (r : Fresh) : Type 0 where
  pub is_record : r.running ≡ record_of starts (crossings plan) marks
  pub is_held : r.held ≡ gathered (lines_of (length starts) (crossings plan) marks)
  pub is_slot : SlotOf plan name r.slot
