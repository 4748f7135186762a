-- The cells of a map as a list of numbers, and its rails and bays by that list.
-- Assumes nothing.
use Rattle.std.specs.Prelude.{List, [], ◌∷◌, ◌++◌, map, ◌≡◌, ℕ, zero, suc, ◌+◌, ◌-◌, ◌*◌, ◌%◌, eqb, ltb, get_or, if◌then◌else◌, Err, None, Ok, Some}
use Rattle.std.proofs.Math.Option.{Option, none, some}
use Rattle.std.proofs.lemmas.List.Edits.{sets}
use Rattle.paper.specs.Basics.{filter, concat, up_to}
use Rattle.paper.specs.Yard.{Bay}
use Rattle.paper.specs.Text.{Text, Read, good, bad_line}
use Rattle.paper.specs.Map.{Grid, bay_letter, read_map, cells, bay_count}
use Rattle.sides.specs.Letters.{letter}
use Rattle.gridmap.specs.MapRead.{MapRead}
use Rattle.gridmap.specs.Cell.{Cell}

-- the letters of rows in a text
abbrev pub letters : Text → Text
letters l = filter letter l

-- the number of a cell with this letter, so many bays before it
unfoldable pub mark_of : ℕ → ℕ → ℕ
mark_of b k = if bay_letter b then k + 1 else 0

unfoldable pub count_with : ℕ → ℕ → ℕ
count_with b k = if bay_letter b then k + 1 else k

-- "numbered row by row"
unfoldable pub numbering : ℕ → Text → List ℕ
numbering k [] = []
numbering k (b ∷ l) = mark_of b k ∷ numbering (count_with b k) l

-- the number of a cell; there is wall beyond the last one
unfoldable pub number_in : List ℕ → ℕ → ℕ → ℕ
number_in t size i = if ltb i size then get_or t i 0 else 0

unfoldable pub beside_in : List ℕ → ℕ → ℕ → ℕ → ℕ
beside_in t size width i = if ltb (i % width + 1) width then number_in t size (i + 1) else 0

-- a rail between two cells, where both are bays
unfoldable pub rail_of : ℕ → ℕ → List Bay
rail_of a b = if eqb a 0 then [] else if eqb b 0 then [] else (a - 1) ∷ (b - 1) ∷ []

unfoldable pub rails_at_in : List ℕ → ℕ → ℕ → ℕ → List Bay
rails_at_in t size width i =
    rail_of (number_in t size i) (beside_in t size width i) ++ rail_of (number_in t size i) (number_in t size (i + width))

-- those of the first k cells
unfoldable pub rails_to : List ℕ → ℕ → ℕ → ℕ → List Bay
rails_to t size width k = concat (map (rails_at_in t size width) (up_to k))

abbrev pub rails_in : List ℕ → ℕ → ℕ → List Bay
rails_in t height width = rails_to t (height * width) width (height * width)

-- a cell's number as its bay
unfoldable pub numbered : ℕ → Option Bay
numbered zero = none
numbered (suc k) = some k

unfoldable pub bay_found : List ℕ → ℕ → ℕ → ℕ → ℕ → Option Bay
bay_found t height width x y =
    if ltb x width then if ltb y height then numbered (number_in t (height * width) (y * width + x)) else none else none

abbrev pub cell_of : Cell → Option Bay
cell_of (Some b) = some b
cell_of None = none

-- ## A map that was read: its height, its width, the count of its bays
abbrev pub map_of : MapRead → Read (ℕ × ℕ × ℕ)
map_of (Ok g) = good (g.height, g.width, g.bays)
map_of (Err n) = bad_line n

abbrev pub shape_of : Read Grid → Read (ℕ × ℕ × ℕ)
shape_of (good G) = good (G.height, G.width, bay_count G)
shape_of (bad_line n) = bad_line n

abbrev pub cells_after : List ℕ → Read Grid → List ℕ
cells_after before (good G) = sets before 0 (numbering 0 (cells G))
cells_after before (bad_line n) = before

pub record Reads (file : Text) (before : List ℕ) (r : MapRead) (after : List ℕ) : Type 0 where
  pub answer : map_of r ≡ shape_of (read_map file)
  pub numbers : after ≡ cells_after before (read_map file)
