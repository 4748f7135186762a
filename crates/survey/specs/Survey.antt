-- The surveyors' file (DIMACS edge file): its layout, the file that a yard is written as, and what reading and writing test.
-- Assumes nothing.
use Rattle.std.specs.Prelude.{Bool, List, [], ◌∷◌, ◌++◌, map, ℕ, suc, ◌-◌, ◌*◌, ◌/◌, eqb, ltb, leb, length, get_or, take, drop, if◌then◌else◌}
use Rattle.std.proofs.Math.Option.{Option, none, some}
use Rattle.paper.specs.Basics.{◌and◌, ◌>>=◌, when, or_else}
use Rattle.paper.specs.Yard.{Bay, Rail}
use Rattle.paper.specs.Order.{order}
use Rattle.paper.specs.Docket.{Refusal, rails_of, no_1, no_2, no_3, no_8}
use Rattle.paper.specs.Text.{Text, text, SPACE, lines, split, same, value, is_number, Read, read_lines}
use Rattle.paper.specs.Print.{decimal, ended}

-- ## Reading

-- the `p` line is due; or it was read, with its N and M and the ends of the rails that were read since
pub data Surveyed : Type 0 where
  head_due : Surveyed
  rails_due : ℕ → ℕ → List Bay → Surveyed

-- "comment lines starting with `c` anywhere"
unfoldable pub is_comment : Text → Bool
is_comment l = eqb (get_or l 0 0) 99

-- "one space between fields, numbers of one to five digits"
unfoldable pub two_numbers : List Text → Option (ℕ × ℕ)
two_numbers fs =
    when (eqb (length fs) 2 and is_number 5 (get_or fs 0 []) and is_number 5 (get_or fs 1 [])) (value (get_or fs 0 []), value (get_or fs 1 []))

-- the two numbers after the word, whose last byte is a space
unfoldable pub numbers_after : Text → Text → Option (ℕ × ℕ)
numbers_after word l = let found = two_numbers (split SPACE (drop (length word) l)) in if same (take (length word) l) word then found else none

-- "one `p edge N M`, then M lines `e u v`"
abbrev pub word_of : Surveyed → Text
word_of head_due = text "p edge "
word_of (rails_due n m ends) = text "e "

-- "bays from 1": "a bay 0 is a layout fault", and so is a line more than M
unfoldable pub taken : Surveyed → ℕ × ℕ → Option Surveyed
taken head_due p = some (rails_due p.0 p.1 [])
taken (rails_due n m ends) p =
    when (ltb (length ends) (2 * m) and leb 1 p.0 and leb 1 p.1) (rails_due n m (ends ++ ((p.0 - 1) ∷ (p.1 - 1) ∷ [])))

unfoldable pub survey_line : Surveyed → Text → Option Surveyed
survey_line a l = let found = numbers_after (word_of a) l >>= taken a in if is_comment l then some a else found

-- the number of bays and the rail ends in the order held; "a missing one is the line after the last"
unfoldable pub survey_end : Surveyed → Option (ℕ × List Bay)
survey_end head_due = none
survey_end (rails_due n m ends) = when (eqb (length ends) (2 * m)) (n, ends)

unfoldable pub read_survey : Text → Read (ℕ × List Bay)
read_survey bs = read_lines survey_line survey_end 1 head_due (lines bs)

-- ## Writing: "rails in the order held, no comments or leading zeros, LF after every line"

unfoldable pub head_line : ℕ → ℕ → Text
head_line n m = text "p edge " ++ decimal n ++ text " " ++ decimal m

unfoldable pub rail_line : Rail → Text
rail_line r = text "e " ++ decimal (suc r.0) ++ text " " ++ decimal (suc r.1)

unfoldable pub rail_lines : List Bay → Text
rail_lines ends = ended (map rail_line (rails_of ends))

unfoldable pub survey_of : ℕ → List Bay → Text
survey_of n ends = ended (head_line n (length ends / 2) ∷ map rail_line (rails_of ends))

-- ## The tests

-- 1 to 3, of a yard with no carriers and no lent plan
unfoldable pub first_three : ℕ → List Bay → Option Refusal
first_three n ends = let o = order n ends [] [] in or_else (no_1 o 0) (or_else (no_2 o) (no_3 o))

-- then 8: for reading, in rail ends
unfoldable pub read_refusal : ℕ → List Bay → ℕ → Option Refusal
read_refusal n ends lent = or_else (first_three n ends) (no_8 lent (length ends))

-- and for writing, in bytes
unfoldable pub write_refusal : ℕ → List Bay → ℕ → Option Refusal
write_refusal n ends lent = or_else (first_three n ends) (no_8 lent (length (survey_of n ends)))
