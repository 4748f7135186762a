-- The survey byte by byte: what is known of a line under way, for the paper's step over any layout. proofs/Stepping shows that it
-- reads as the lines do. What it keeps has a fixed size but for the ends that were read, so a file of any length is read in the
-- same room: comment lines make files that keep the layout as long as one likes.
-- Assumes nothing.
use Rattle.std.specs.Prelude.{false, List, [], ◌∷◌, ℕ, suc, eqb, ltb, leb, if◌then◌else◌}
use Rattle.std.proofs.Math.Option.{Option, none, some}
use Rattle.paper.specs.Basics.{◌and◌}
use Rattle.paper.specs.Yard.{Bay}
use Rattle.paper.specs.Text.{Text, SPACE, is_digit, Read}
use Rattle.paper.specs.Bytes.{State, going, feed, finish_file, tally}
use Rattle.survey.specs.Survey.{Surveyed, head_due, word_of, taken, survey_end}

-- A line under way: no byte yet; a comment; broken; the rest of the word that is due; the digits and the number so far of the first
-- number; the first number, and the same of the second.
pub data LineUnderWay : Type 0 where
  fresh comment broken : LineUnderWay
  in_word : Text → LineUnderWay
  in_first : ℕ → ℕ → LineUnderWay
  in_second : ℕ → ℕ → ℕ → LineUnderWay

-- behind the word stands the first number
unfoldable pub await : Text → LineUnderWay
await [] = in_first 0 0
await (x ∷ w) = in_word (x ∷ w)

unfoldable pub word_byte : Text → ℕ → LineUnderWay
word_byte [] b = broken
word_byte (x ∷ w) b = if eqb b x then await w else broken

unfoldable pub digit_byte : (ℕ → ℕ → LineUnderWay) → ℕ → ℕ → ℕ → LineUnderWay
digit_byte on k n b = if is_digit b and ltb k 5 then on (suc k) (tally n b) else broken

-- a line that begins with the word, or with a `c`
unfoldable pub line_byte : Text → LineUnderWay → ℕ → LineUnderWay
line_byte w fresh b = if eqb b 99 then comment else word_byte w b
line_byte w comment b = comment
line_byte w broken b = broken
line_byte w (in_word r) b = word_byte r b
line_byte w (in_first k n) b = if eqb b SPACE then if leb 1 k then in_second n 0 0 else broken else digit_byte in_first k n b
line_byte w (in_second p k n) b = digit_byte (in_second p) k n b

-- what a line is worth at its end
unfoldable pub line_worth : Surveyed → LineUnderWay → Option Surveyed
line_worth a fresh = none
line_worth a comment = some a
line_worth a broken = none
line_worth a (in_word r) = none
line_worth a (in_first k n) = none
line_worth a (in_second p k n) = if leb 1 k then taken a (p, n) else none

-- what was read before the line, and the line under way
pub record Under : Type 0 where
  pub due : Surveyed
  pub line : LineUnderWay

unfoldable pub begin_line : Surveyed → Under
begin_line a = record { due = a; line = fresh }

unfoldable pub in_line : Under → ℕ → Under
in_line u b = record { due = u.due; line = line_byte (word_of u.due) u.line b }

unfoldable pub close_line : Under → Option Surveyed
close_line u = line_worth u.due u.line

unfoldable pub end_line : Under → Option (ℕ × List Bay)
end_line u = survey_end u.due

abbrev pub unread : State Under
unread = going 1 false false (record { due = head_due; line = fresh })

unfoldable pub survey_step : State Under → ℕ → State Under
survey_step s b = feed begin_line in_line close_line s b

unfoldable pub survey_finish : State Under → Read (ℕ × List Bay)
survey_finish s = finish_file begin_line in_line close_line end_line s
