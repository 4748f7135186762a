-- The layout computed on small files: line ends, comments, missing and extra lines, each field bad in its turn.
-- Assumes nothing.
use mathlib.Core.Path.{◌≡◌, refl}
use mathlib.Core.List.{List, [], ◌∷◌, map}
use Prim.Native.Nat.{ℕ}
use Prim.Native.String.{String}
use Rattle.paper.specs.Yard.{Bay}
use Rattle.paper.specs.Text.{text, Read, good, bad_line}
use Rattle.worked.proofs.Read.{reading}
use Rattle.survey.specs.Survey.{read_survey, survey_of}
use Rattle.survey.specs.Survey

-- every definition of the layout and of the written file, opened
unfoldable pub surveying : Unit {0}
unfolding reading Survey.is_comment Survey.two_numbers Survey.numbers_after Survey.taken Survey.survey_line Survey.survey_end Survey.read_survey Survey.head_line Survey.rail_line Survey.survey_of
surveying = tt

abbrev surveys_of : List String → List (Read (ℕ × List Bay))
surveys_of ls = map (λ l. read_survey (text l)) ls

abbrev T : Read (ℕ × List Bay)
T = good (4, 0 ∷ 1 ∷ 1 ∷ 2 ∷ 1 ∷ 3 ∷ [])

-- LF, CR LF, no end at the last line; comments anywhere, empty ones and words with a `c` too; leading zeros; a bay above N is no
-- fault of the layout
pub good-surveys : surveys_of (
    "p edge 4 3\ne 1 2\ne 2 3\ne 2 4\n"
    ∷ "p edge 4 3\r\ne 1 2\r\ne 2 3\r\ne 2 4\r\n"
    ∷ "c\nclear p\np edge 00004 3\nc e 1 2\ne 1 2\ne 02 3\nc\ne 2 00004\nc"
    ∷ "p edge 4 0\n"
    ∷ "p edge 4 1\ne 5 99999"
    ∷ [])
    ≡ T ∷ T ∷ T ∷ good (4, []) ∷ good (4, 4 ∷ 99998 ∷ []) ∷ []
unfolding surveying
good-surveys = refl

-- an empty file; an empty line; an `e` before the `p`; a second `p`; a bay 0; six digits; two spaces; a space at the end; a third
-- number; a line missing, and one behind a comment; a line too many; a CR at the end of the file; another word
pub bad-surveys : surveys_of (
    ""
    ∷ "p edge 4 1\n\ne 1 2\n"
    ∷ "c\ne 1 2\np edge 4 1\n"
    ∷ "p edge 4 1\np edge 4 1\ne 1 2\n"
    ∷ "p edge 4 1\ne 0 2\n"
    ∷ "p edge 4 1\ne 000001 2\n"
    ∷ "p edge  4 1\ne 1 2\n"
    ∷ "p edge 4 1 \ne 1 2\n"
    ∷ "p edge 4 1\ne 1 2 3\n"
    ∷ "p edge 4 2\ne 1 2\n"
    ∷ "p edge 4 2\ne 1 2\nc\n"
    ∷ "p edge 4 1\ne 1 2\ne 2 3\n"
    ∷ "p edge 4 1\ne 1 2\r"
    ∷ "p col 4 1\ne 1 2\n"
    ∷ [])
    ≡ bad_line 1 ∷ bad_line 2 ∷ bad_line 2 ∷ bad_line 2 ∷ bad_line 2 ∷ bad_line 2 ∷ bad_line 1 ∷ bad_line 1 ∷ bad_line 2 ∷ bad_line 3 ∷ bad_line 4 ∷ bad_line 3 ∷ bad_line 2 ∷ bad_line 1 ∷ []
unfolding surveying
bad-surveys = refl

pub T-written : survey_of 4 (0 ∷ 1 ∷ 1 ∷ 2 ∷ 1 ∷ 3 ∷ []) ≡ text "p edge 4 3\ne 1 2\ne 2 3\ne 2 4\n"
unfolding surveying
T-written = refl
