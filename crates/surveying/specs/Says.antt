-- What reading and writing a surveyors' file answer, and what they leave in the lent lists.
-- Assumes nothing.
use Rattle.std.specs.Prelude.{List, ◌++◌, ◌≡◌, ℕ, ◌*◌, ◌≤◌, ◌<◌, length, take, drop, Err, Ok}
use Rattle.std.proofs.Math.Option.{Option, none, some}
use Rattle.paper.specs.Basics.{if_some◌then◌else◌}
use Rattle.paper.specs.Limits.{most_rails}
use Rattle.paper.specs.Yard.{Bay}
use Rattle.paper.specs.Docket.{Verdict, denied, unless_denied, size, bad_survey}
use Rattle.paper.specs.Text.{Text, Read, good, bad_line}
use Rattle.paper.specs.Docket as paper
use Rattle.docket.specs.Reading.{refusal_of, verdict_of}
use Rattle.docket.specs.declared.Refusal.{Refusal}
use Rattle.docket.specs.Verdict.{Verdict as Told}
use Rattle.survey.specs.Survey.{read_survey, survey_of, read_refusal, write_refusal}
use Rattle.edges.specs.SurveyRead.{SurveyRead}
use Rattle.edges.specs.Held.{Reads}
use Rattle.surveying.specs.declared.Survey.{Survey}
use Rattle.surveying.specs.Tested.{Tested}

abbrev pub tested_of : Tested → Option paper.Refusal
tested_of (Ok tt) = none
tested_of (Err r) = some (refusal_of r)

-- ## Reading

-- "16, layout, first bad line; 1 to 3 as before; then 8": else the number of rail ends
abbrev pub read_answer : Read (ℕ × List Bay) → ℕ → Verdict
read_answer (good y) lent = unless_denied (read_refusal y.0 y.1 lent) (length y.1)
read_answer (bad_line l) lent = denied (bad_survey l)

-- the bays, 0 where the file is refused
abbrev pub read_bays : Read (ℕ × List Bay) → ℕ → ℕ
read_bays (good y) lent = if_some read_refusal y.0 y.1 lent then (λ r. 0) else y.0
read_bays (bad_line l) lent = 0

-- the ends and nothing beyond them; a refusal changes nothing
abbrev pub read_left : Read (ℕ × List Bay) → List ℕ → List ℕ
read_left (good y) before = if_some read_refusal y.0 y.1 (length before) then (λ r. before) else (y.1 ++ drop (length y.1) before)
read_left (bad_line l) before = before

-- of what the layout gave
pub record Says (found : Read (ℕ × List Bay)) (before : List ℕ) (r : Survey) (after : List ℕ) : Type 0 where
  pub answer : verdict_of r.verdict ≡ read_answer found (length before)
  pub bays : r.bays ≡ read_bays found (length before)
  pub left : after ≡ read_left found before

abbrev pub AcceptSays : ℕ → List Bay → List ℕ → Survey → List ℕ → Type 0
AcceptSays n ends before r after = Says (good (n, ends)) before r after

abbrev pub ReadSays : Text → List ℕ → Survey → List ℕ → Type 0
ReadSays file before r after = Says (read_survey file) before r after

-- a refusal, with no bays
pub record Refuses (why : Refusal) (r : Survey) : Type 0 where
  pub bays : r.bays ≡ 0
  pub verdict : r.verdict ≡ Err why

-- refused as 1, and the list left as it was
pub record TooLong (before : List ℕ) (r : Survey) (after : List ℕ) : Type 0 where
  pub bays : r.bays ≡ 0
  pub answer : verdict_of r.verdict ≡ denied size
  pub left : after ≡ before

-- of so many ends in a room
pub record TakeSays (n k : ℕ) (room before : List ℕ) (r : Survey) (after : List ℕ) : Type 0 where
  pub long : length room < k → TooLong before r after
  pub whole : k ≤ length room → Says (good (n, take k room)) before r after

-- the same of any file that was read into a room for all ends of a yard, whatever stood in the room before
pub record SettleSays (found : SurveyRead) (room before : List ℕ) (r : Survey) (after : List ℕ) : Type 0 where
  pub says : (file : Text) (empty : List ℕ) → length empty ≡ length room → 2 * most_rails ≤ length room → Reads file found empty room → ReadSays file before r after

-- ## Writing

abbrev pub write_answer : ℕ → List Bay → ℕ → Verdict
write_answer n ends lent = unless_denied (write_refusal n ends lent) (length (survey_of n ends))

abbrev pub write_left : ℕ → List Bay → List ℕ → List ℕ
write_left n ends before =
    if_some write_refusal n ends (length before) then (λ r. before) else (survey_of n ends ++ drop (length (survey_of n ends)) before)

pub record WriteSays (n : ℕ) (ends : List Bay) (before : List ℕ) (r : Told) (after : List ℕ) : Type 0 where
  pub answer : verdict_of r ≡ write_answer n ends (length before)
  pub left : after ≡ write_left n ends before
