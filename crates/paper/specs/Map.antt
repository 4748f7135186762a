-- The map file: its layout, and its bays and rails.
-- Assumes nothing.
use Rattle.std.specs.Prelude.{Bool, List, [], ◌∷◌, ◌++◌, map, ℕ, suc, ◌+◌, ◌*◌, ◌%◌, eqb, ltb, leb, length, get_or, take, drop, if◌then◌else◌}
use Rattle.std.proofs.Math.Option.{Option, none, some}
use Rattle.paper.specs.Basics.{◌and◌, ◌or◌, ◌>>=◌, when, concat, up_to}
use Rattle.paper.specs.Yard.{Bay}
use Rattle.paper.specs.Text.{Text, text, lines, same, all, count, value, is_number, Read, read_lines}

-- "H, W from 1 to 64"
abbrev pub most_side : ℕ
most_side = 64

-- "in one or two digits after one space": the number after the word, whose last byte is the space
unfoldable pub side_after : Text → Text → Option ℕ
side_after word l =
    let d = drop (length word) l in
    when (same (take (length word) l) word and is_number 2 d and leb 1 (value d) and leb (value d) most_side) (value d)

-- "`.` and `G` are bays"
unfoldable pub bay_letter : ℕ → Bool
bay_letter b = eqb b 46 or eqb b 71

-- "`@ O T W` are walls"
unfoldable pub wall_letter : ℕ → Bool
wall_letter b = eqb b 64 or eqb b 79 or eqb b 84 or eqb b 87

-- W letters; "any other letter is 14"
unfoldable pub is_row : ℕ → Text → Bool
is_row w l = eqb (length l) w and all (λ b. bay_letter b or wall_letter b) l

pub record Grid : Type 0 where
  pub height : ℕ
  pub width : ℕ
  pub rows : List Text

-- the line that is due, with what was read before it
pub data Due : Type 0 where
  type_due height_due : Due
  width_due : ℕ → Due
  map_due : ℕ → ℕ → Due
  row_due : ℕ → ℕ → List Text → Due

-- "lines `type octile`, `height H`, `width W`, `map`, then H rows of W letters"
unfoldable pub map_line : Due → Text → Option Due
map_line type_due l = when (same l (text "type octile")) height_due
map_line height_due l = side_after (text "height ") l >>= λ h. some (width_due h)
map_line (width_due h) l = side_after (text "width ") l >>= λ w. some (map_due h w)
map_line (map_due h w) l = when (same l (text "map")) (row_due h w [])
map_line (row_due h w rs) l = when (ltb (length rs) h and is_row w l) (row_due h w (rs ++ (l ∷ [])))

unfoldable pub map_end : Due → Option Grid
map_end type_due = none
map_end height_due = none
map_end (width_due h) = none
map_end (map_due h w) = none
map_end (row_due h w rs) = when (eqb (length rs) h) (record { height = h; width = w; rows = rs })

unfoldable pub read_map : Text → Read Grid
read_map bs = read_lines map_line map_end 1 type_due (lines bs)

module _ (G : Grid) where
  -- the letters row by row
  unfoldable pub cells : Text
  cells = concat G.rows

  -- beyond the last letter there is wall
  unfoldable pub bay_at : ℕ → Bool
  bay_at i = bay_letter (get_or cells i 64)

  -- "numbered row by row": the bays before the cell
  unfoldable pub number_at : ℕ → Bay
  number_at i = count bay_letter (take i cells)

  unfoldable pub bay_count : ℕ
  bay_count = count bay_letter cells

  -- the bay at column x and row y, "from 0 at top left"
  unfoldable pub bay_in : ℕ → ℕ → Option Bay
  bay_in x y =
      let i = y * G.width + x in
      when (ltb x G.width and ltb y G.height and bay_at i) (number_at i)

  -- the rails of which the cell is the lower bay: to the one beside it, then to the one below
  unfoldable pub rails_at : ℕ → List Bay
  rails_at i =
      let beside = if ltb (suc (i % G.width)) G.width and bay_at (suc i) then number_at i ∷ number_at (suc i) ∷ [] else [] in
      let below = if bay_at (i + G.width) then number_at i ∷ number_at (i + G.width) ∷ [] else [] in
      if bay_at i then beside ++ below else []

  -- "Rails join bays side by side or above each other, lower bay first, held in rising order of lower, then higher bay."
  unfoldable pub rail_ends : List Bay
  rail_ends = concat (map rails_at (up_to (length cells)))
