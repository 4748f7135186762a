-- What each function makes of the state: a byte on, the end of the file, and the ends stored.
-- Assumes nothing.
use mathlib.Core.List.{List, ◌++◌, map, foldl}
use Rattle.std.specs.Prelude.{◌≡◌, ℕ, ◌+◌, ◌*◌, ◌≤◌, ◌<◌, eqb, ltb, length, set, if◌then◌else◌, Err, Ok}
use Rattle.std.proofs.lemmas.List.Edits.{sets}
use Rattle.paper.specs.Yard.{Bay}
use Rattle.paper.specs.Text.{Text, Read, good, bad_line}
use Rattle.stores.specs.Writing.{Wrote}
use Rattle.survey.specs.Survey.{read_survey}
use Rattle.survey.specs.Bytes.{unread, survey_step, survey_finish}
use Rattle.survey.specs.Narrow.{narrow}
use Rattle.edge_lines.specs.declared.Due.{Due}
use Rattle.edge_lines.specs.declared.Due.TheVariants.{Head, Rails}
use Rattle.edge_lines.specs.declared.Reading.{Reading}
use Rattle.edge_lines.specs.Lines.{count_of, state_of, ends_after, last_line}
use Rattle.edges.specs.SurveyRead.{SurveyRead}

-- ## One byte

-- one byte on
pub record Steps (s : Reading) (b : ℕ) (r : Reading) : Type 0 where
  pub most : r.line ≤ s.line + 1
  pub counts : (ends : List Bay) → length ends ≡ count_of s.due → length (ends_after s r ends) ≡ count_of r.due
  pub steps : s.line < last_line → (ends : List Bay) → length ends ≡ count_of s.due
      → state_of r (ends_after s r ends) ≡ survey_step (state_of s ends) b

-- ## The end of the file

abbrev pub due_read : ℕ → Due → List Bay → Read (ℕ × List Bay)
due_read line Head ends = bad_line line
due_read line (Rails n m k) ends = if eqb k (2 * m) then good (n, ends) else bad_line line

-- what was read, once the file has ended
abbrev pub read_of : Reading → List Bay → Read (ℕ × List Bay)
read_of s ends = if s.failed then bad_line s.line else due_read s.line s.due ends

pub record Finishes (s r : Reading) : Type 0 where
  pub counts : (ends : List Bay) → length ends ≡ count_of s.due → length (ends_after s r ends) ≡ count_of r.due
  pub finishes : s.line < last_line → (ends : List Bay) → length ends ≡ count_of s.due
      → read_of r (ends_after s r ends) ≡ survey_finish (state_of s ends)

-- the answer with the number of ends for the ends
abbrev pub answer_of : SurveyRead → Read (ℕ × ℕ)
answer_of (Ok (n, k)) = good (n, k)
answer_of (Err l) = bad_line l

abbrev pub due_answer : ℕ → Due → Read (ℕ × ℕ)
due_answer line Head = bad_line line
due_answer line (Rails n m k) = if eqb k (2 * m) then good (n, k) else bad_line line

abbrev pub answer_by : Reading → Read (ℕ × ℕ)
answer_by s = if s.failed then bad_line s.line else due_answer s.line s.due

abbrev pub count_read : Read (ℕ × List Bay) → Read (ℕ × ℕ)
count_read (good y) = good (y.0, length y.1)
count_read (bad_line l) = bad_line l

-- ## Storing the ends

-- the last rail, where the count has grown
unfoldable pub stored : Reading → Reading → List ℕ → List ℕ
stored s r l =
    let k = count_of s.due in
    if ltb k (count_of r.due) then set (set l k (narrow r.from)) (k + 1) (narrow r.to) else l

-- the bytes t were read, and the ends in them are stored as far as there is room
pub record Came (t : Text) (s : Reading) (before after : List ℕ) : Type 0 where
  pub ends : List Bay
  pub count : length ends ≡ count_of s.due
  pub wrote : Wrote before 0 (map narrow ends) after (count_of s.due)
  pub state : state_of s ends ≡ foldl survey_step unread t
  pub line : s.line ≤ length t + 1

-- the whole file was read: its ends are stored if it keeps the layout; of a file that does not, nothing is said of the room
pub record Reads (t : Text) (r : SurveyRead) (before after : List ℕ) : Type 0 where
  pub answer : answer_of r ≡ count_read (read_survey t)
  pub kept : (n : ℕ) (ends : List Bay) → read_survey t ≡ good (n, ends) → after ≡ sets before 0 (map narrow ends)

-- a piece behind the bytes t, where there are fewer bytes than line numbers
pub record Feeds (s : Reading) (piece : Text) (r : Reading) (mid after : List ℕ) : Type 0 where
  pub sized : length after ≡ length mid
  pub feeds : (t : Text) (before : List ℕ) → length t + length piece < last_line → Came t s before mid → Came (t ++ piece) r before after

-- the end behind them
pub record Ends (s : Reading) (r : SurveyRead) (mid after : List ℕ) : Type 0 where
  pub sized : length after ≡ length mid
  pub ends : (t : Text) (before : List ℕ) → length t + 1 < last_line → Came t s before mid → Reads t r before after
