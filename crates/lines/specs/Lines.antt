-- What finding a line in a file finds, and what beginning with a word means.
-- Assumes nothing.
use Rattle.std.specs.Prelude.{Bool, true, false, not, [], ◌∷◌, ◌≡◌, ℕ, ◌-◌, ◌≤◌, ◌<◌, eqb, length, take, drop, get_or, None, Some}
use Rattle.paper.specs.Basics.{◌and◌}
use Rattle.paper.specs.Text.{Text, LF, lines, all}
use Rattle.lines.specs.FoundLine.{FoundLine}

-- the bytes of a file from one place up to another
abbrev pub part : Text → ℕ → ℕ → Text
part file from to = take (to - from) (drop from file)

unfoldable pub no_lf : Text → Bool
no_lf l = all (λ b. not (eqb b LF)) l

pub record EndOf (file : Text) (from to : ℕ) : Type 0 where
  pub low : from ≤ to
  pub high : from < to → to ≤ length file
  pub plain : no_lf (part file from to) ≡ true
  pub stops : to < length file → get_or file to 0 ≡ LF

-- a line's text and the lines behind it
pub record TextAt (file : Text) (from end next : ℕ) : Type 0 where
  pub low : from ≤ end
  pub high : end ≤ length file
  pub on : from < next
  pub within : next ≤ length file
  pub reads : lines (drop from file) ≡ part file from end ∷ lines (drop next file)

pub record LineAt (file : Text) (from : ℕ) (r : FoundLine) : Type 0 where
  pub line : (end next : ℕ) → r ≡ Some (record { end = end; next = next }) → TextAt file from end next
  pub none : r ≡ None → lines (drop from file) ≡ []

unfoldable pub begins : Text → Text → Bool
begins [] l = true
begins (w ∷ ws) [] = false
begins (w ∷ ws) (b ∷ l) = eqb b w and begins ws l
