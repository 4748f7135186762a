-- The map's layout without its rows' letters: what a line makes of the one that was due, and what the end gives.
-- Assumes nothing.
use Rattle.std.specs.Prelude.{[], ℕ, ◌+◌, eqb, ltb, Err, None, Ok, Some}
use Rattle.std.proofs.Math.Option.{Option, none, some}
use Rattle.paper.specs.Basics.{◌and◌, ◌>>=◌, when}
use Rattle.paper.specs.Text.{Text, text, same, Read, good, bad_line, read_lines}
use Rattle.paper.specs.Map.{Grid, side_after, is_row}
use Rattle.sides.specs.declared.Due.{Due}
use Rattle.sides.specs.declared.Due.TheVariants.{Octile, Height, Width, Map, Row}
use Rattle.sides.specs.Taken.{Taken}
use Rattle.sides.specs.Sides.{Sides}

unfoldable pub line_taken : Due → Text → Option Due
line_taken Octile l = when (same l (text "type octile")) Height
line_taken Height l = side_after (text "height ") l >>= λ h. some (Width h)
line_taken (Width h) l = side_after (text "width ") l >>= λ w. some (Map h w)
line_taken (Map h w) l = when (same l (text "map")) (Row h w 0)
line_taken (Row h w k) l = when (ltb k h and is_row w l) (Row h w (k + 1))

abbrev pub taken_of : Taken → Option Due
taken_of (Some d) = some d
taken_of None = none

-- what the end gives
unfoldable pub due_end : Due → Option (ℕ × ℕ)
due_end Octile = none
due_end Height = none
due_end (Width h) = none
due_end (Map h w) = none
due_end (Row h w k) = when (eqb k h) (h, w)

unfoldable pub end_taken : ℕ → Due → Read (ℕ × ℕ)
end_taken n d = read_lines line_taken due_end n d []

abbrev pub sides_of : Sides → Read (ℕ × ℕ)
sides_of (Ok (h, w)) = good (h, w)
sides_of (Err n) = bad_line n

-- of a map that was read
abbrev pub sides_read : Read Grid → Read (ℕ × ℕ)
sides_read (good G) = good (G.height, G.width)
sides_read (bad_line n) = bad_line n
