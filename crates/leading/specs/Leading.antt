-- The equal leading crossings of two lists, and the rest of the longer one.
-- Assumes nothing.
use Rattle.std.specs.Prelude.{List, [], ◌∷◌, ℕ, zero, suc, ◌≤◌, eqb, ltb, length, drop, if◌then◌else◌}
use Rattle.paper.specs.Docket.{Verdict, granted, denied}

-- "the number of equal leading crossings"
unfoldable pub equal_leading : List ℕ → List ℕ → ℕ
equal_leading [] ys = zero
equal_leading (x ∷ xs) [] = zero
equal_leading (x ∷ xs) (y ∷ ys) = let rest = equal_leading xs ys in if eqb x y then suc rest else zero

-- "whichever of the two lists is longer", "at equal length .. the first": it is told by 1 or 2, no list by 0
abbrev pub longer_of : List ℕ → List ℕ → ℕ
longer_of first second = if ltb (length first) (length second) then 2 else 1

abbrev pub list_of : List ℕ → List ℕ → ℕ → List ℕ
list_of first second which = if eqb which 2 then second else first

abbrev pub longer_by : List ℕ → List ℕ → Verdict → ℕ
longer_by first second (granted equal) = longer_of first second
longer_by first second (denied r) = 0

-- "the rest .. from the first difference on", "on refusal, an empty part"
abbrev pub part_by : List ℕ → List ℕ → Verdict → List ℕ
part_by first second (granted equal) = drop equal (list_of first second (longer_of first second))
part_by first second (denied r) = []

-- what is handed back begins within both lists
abbrev pub Within : List ℕ → List ℕ → Verdict → Type 0
Within first second (granted equal) = (equal ≤ length first) × (equal ≤ length second)
Within first second (denied r) = Unit {0}
