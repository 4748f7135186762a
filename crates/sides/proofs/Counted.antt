-- The layout without the rows' letters answers as the layout does: a row read is a row counted.
use mathlib.Core.Path.{◌≡◌, refl}
use mathlib.Core.List.{List, [], ◌∷◌}
use mathlib.Core.Option.{Option, none, some}
use Prim.Native.Nat.{ℕ, suc}
use lib.Dec.{eqb, ltb}
use lib.ListN.{length, length-append}
use Rattle.paper.specs.Basics.{◌and◌}
use Rattle.paper.specs.Text.{Text, text, lines, same, read_lines}
use Rattle.paper.specs.Map as paper
use Rattle.paper.specs.Map.{type_due, height_due, width_due, map_due, row_due, side_after, is_row, map_line, map_end, read_map}
use Rattle.paper.proofs.Tests.{by_cases, by-option}
use Rattle.sides.specs.declared.Due.{Due}
use Rattle.sides.specs.declared.Due.TheVariants.{Octile, Height, Width, Map, Row}
use Rattle.sides.specs.Layout.{line_taken, due_end, sides_read}

abbrev counted : paper.Due → Due
counted type_due = Octile
counted height_due = Height
counted (width_due h) = Width h
counted (map_due h w) = Map h w
counted (row_due h w rs) = Row h w (length rs)

abbrev counted_of : Option paper.Due → Option Due
counted_of none = none
counted_of (some d) = some (counted d)

line-counted : (d : paper.Due) (l : Text) → line_taken (counted d) l ≡ counted_of (map_line d l)
unfolding line_taken map_line
line-counted type_due l = by_cases (same l (text "type octile")) (λ e. rw e) (λ e. rw e)
line-counted height_due l = by-option (side_after (text "height ") l) (λ e. rw e) (λ h e. rw e)
line-counted (width_due h) l = by-option (side_after (text "width ") l) (λ e. rw e) (λ w e. rw e)
line-counted (map_due h w) l = by_cases (same l (text "map")) (λ e. rw e) (λ e. rw e)
line-counted (row_due h w rs) l =
    by_cases (ltb (length rs) h and is_row w l) (λ e. rw (e, length-append)) (λ e. rw e)

end-counted : (n : ℕ) (d : paper.Due) → read_lines line_taken due_end n (counted d) [] ≡ sides_read (read_lines map_line map_end n d [])
unfolding read_lines due_end map_end
end-counted n type_due = refl
end-counted n height_due = refl
end-counted n (width_due h) = refl
end-counted n (map_due h w) = refl
end-counted n (row_due h w rs) = by_cases (eqb (length rs) h) (λ e. rw e) (λ e. rw e)

read-counted : (n : ℕ) (d : paper.Due) (ls : List Text) → read_lines line_taken due_end n (counted d) ls ≡ sides_read (read_lines map_line map_end n d ls)
unfolding read_lines
read-counted n d [] = end-counted n d
read-counted n d (l ∷ ls) =
    rw (line-counted d l) (by-option (map_line d l) (λ e. rw e) (λ d' e. rw e (read-counted (suc n) d' ls)))

pub sides-read : (file : Text) → read_lines line_taken due_end 1 Octile (lines file) ≡ sides_read (read_map file)
unfolding read_map
sides-read file = read-counted 1 type_due (lines file)
