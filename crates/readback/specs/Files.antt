-- What is answered for a plan's file and for a file of reports, and what is left in the lent list. A refusal changes nothing.
-- Assumes nothing.
use Rattle.std.specs.Prelude.{Bool, true, false, List, ◌≡◌, ℕ, leb, length, if◌then◌else◌}
use Rattle.paper.specs.Yard.{most_crossings}
use Rattle.paper.specs.Docket.{Verdict, denied, size, bad_plan, bad_reports}
use Rattle.paper.specs.Text.{Text, Read, good, bad_line}
use Rattle.docket.specs.Reading.{verdict_of}
use Rattle.docket.specs.Verdict.{Verdict as Answered}
use Rattle.handing.specs.Handing.{fitted, handed}
use Rattle.readback.specs.Entries.{read_entries}

-- 26 with the first bad line; then 1 for more crossings than a plan may have; then 8; else how many there are
abbrev pub plan_verdict : Read (List ℕ) → ℕ → Verdict
plan_verdict (bad_line n) has = denied (bad_plan n)
plan_verdict (good ns) has = if leb (length ns) most_crossings then handed (length ns) has else denied size

abbrev pub plan_end : Read (List ℕ) → List ℕ → List ℕ
plan_end (bad_line n) out = out
plan_end (good ns) out = if leb (length ns) most_crossings then fitted ns out else out

-- 27 with the first bad line; then 8; else how many there are
abbrev pub reports_verdict : Read (List ℕ) → ℕ → Verdict
reports_verdict (bad_line n) has = denied (bad_reports n)
reports_verdict (good ns) has = handed (length ns) has

abbrev pub reports_end : Read (List ℕ) → List ℕ → List ℕ
reports_end (bad_line n) out = out
reports_end (good ns) out = fitted ns out

-- ## What the functions promise
pub record PlanRead (file : Text) (before : List ℕ) (r : Answered) (after : List ℕ) : Type 0 where
  pub answers : verdict_of r ≡ plan_verdict (read_entries false file) (length before)
  pub leaves : after ≡ plan_end (read_entries false file) before

pub record ReportsRead (file : Text) (before : List ℕ) (r : Answered) (after : List ℕ) : Type 0 where
  pub answers : verdict_of r ≡ reports_verdict (read_entries true file) (length before)
  pub leaves : after ≡ reports_end (read_entries true file) before

-- a file that reads as so many numbers is handed over
pub record Gives (reports : Bool) (file : Text) (count : ℕ) (before : List ℕ) (r : Answered) (after : List ℕ) : Type 0 where
  pub answers : verdict_of r ≡ handed count (length before)
  pub leaves : (ns : List ℕ) → read_entries reports file ≡ good ns → count ≡ length ns → after ≡ fitted ns before
