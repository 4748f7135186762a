-- How the code's state reads as the state of the survey's step, and what a line that ends makes of it.
-- Assumes nothing.
use Rattle.std.specs.Prelude.{Bool, true, false, List, [], ◌∷◌, ◌++◌, ◌≡◌, ℕ, suc, ◌+◌, ◌≤◌, ◌<◌, ltb, length, drop, if◌then◌else◌}
use Rattle.std.proofs.Math.Option.{Option}
use Rattle.paper.specs.Yard.{Bay}
use Rattle.paper.specs.Text.{Text, text}
use Rattle.paper.specs.Bytes.{State, failed, going, line_closed}
use Rattle.survey.specs.Survey.{Surveyed, head_due, rails_due, taken}
use Rattle.survey.specs.Bytes.{LineUnderWay, fresh, comment, broken, in_word, in_first, in_second, Under, begin_line, close_line}
use Rattle.edge_lines.specs.declared.Due.{Due}
use Rattle.edge_lines.specs.declared.Due.TheVariants.{Head, Rails}
use Rattle.edge_lines.specs.declared.Part.{Part}
use Rattle.edge_lines.specs.declared.Part.TheVariants.{Fresh, Comment, Broken as BrokenPart, Word, First, Second}
use Rattle.edge_lines.specs.declared.Reading.{Reading}

-- ## The state

-- the line under way, whose word is w
abbrev pub part_of : Text → Part → LineUnderWay
part_of w Fresh = fresh
part_of w Comment = comment
part_of w BrokenPart = broken
part_of w (Word k) = in_word (drop k w)
part_of w (First k n) = in_first k n
part_of w (Second p k n) = in_second p k n

abbrev pub word_by : Due → Text
word_by Head = text "p edge "
word_by (Rails n m k) = text "e "

abbrev pub part_by : Due → Part → LineUnderWay
part_by d p = part_of (word_by d) p

-- how many ends were read
abbrev pub count_of : Due → ℕ
count_of Head = 0
count_of (Rails n m k) = k

-- what was read, with the ends
abbrev pub due_of : Due → List Bay → Surveyed
due_of Head ends = head_due
due_of (Rails n m k) ends = rails_due n m ends

abbrev pub under_of : Reading → List Bay → Under
under_of s ends = record { due = due_of s.due ends; line = part_by s.due s.part }

abbrev pub state_of : Reading → List Bay → State Under
state_of s ends = if s.failed then failed s.line else going s.line s.begun s.held (under_of s ends)

-- the ends read after: two more where the count has grown
abbrev pub ends_after : Reading → Reading → List Bay → List Bay
ends_after s r ends = if ltb (count_of s.due) (count_of r.due) then ends ++ (r.from ∷ r.to ∷ []) else ends

-- ## The line

-- the number of a line has 64 bits; no file that is lent has more lines
abbrev pub last_line : ℕ
last_line = 18446744073709551615

pub record OneMore (n r : ℕ) : Type 0 where
  pub one : n < last_line → r ≡ suc n
  pub most : r ≤ n + 1

-- the next line is due
pub record Opened (s : Reading) (d : Due) (a b : ℕ) (r : Reading) : Type 0 where
  pub line : OneMore s.line r.line
  pub failed : r.failed ≡ false
  pub begun : r.begun ≡ false
  pub held : r.held ≡ false
  pub due : r.due ≡ d
  pub from : r.from ≡ a
  pub to : r.to ≡ b
  pub part : r.part ≡ Fresh

-- the layout is broken in this line
pub record Broken (s r : Reading) : Type 0 where
  pub line : r.line ≡ s.line
  pub failed : r.failed ≡ true
  pub due : r.due ≡ s.due

-- the line goes on, and a CR is held back or not
pub record Marked (s : Reading) (p : Part) (hold : Bool) (r : Reading) : Type 0 where
  pub line : r.line ≡ s.line
  pub failed : r.failed ≡ s.failed
  pub begun : r.begun ≡ true
  pub held : r.held ≡ hold
  pub due : r.due ≡ s.due
  pub part : r.part ≡ p

-- the line has ended, and was worth this
pub record Ended (worth : List Bay → Option Surveyed) (s r : Reading) : Type 0 where
  pub most : r.line ≤ s.line + 1
  pub counts : (ends : List Bay) → length ends ≡ count_of s.due → length (ends_after s r ends) ≡ count_of r.due
  pub ended : s.line < last_line → (ends : List Bay) → length ends ≡ count_of s.due
      → state_of r (ends_after s r ends) ≡ line_closed begin_line s.line (worth ends)

-- two numbers stood in it
abbrev pub Takes : Reading → ℕ → ℕ → Reading → Type 0
Takes s p n r = Ended (λ ends. taken (due_of s.due ends) (p, n)) s r

abbrev pub Closes : Reading → Reading → Type 0
Closes s r = Ended (λ ends. close_line (under_of s ends)) s r
