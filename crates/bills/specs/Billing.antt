-- Bills as we go: what record and lines are once they are worked out afresh from plan, start and marks, and how an accepted report changes them.
-- Assumes nothing.
use Rattle.std.specs.Prelude.{List, [], ◌∷◌, ◌++◌, map, ℕ, suc, ◌-◌, max, eqb, length, get_or, set, replicate, if◌then◌else◌}
use Rattle.paper.specs.Basics.{◌and◌, up_to}
use Rattle.paper.specs.Yard.{Bay, Carrier, Placement, Crossing, most_bays, most_crossings, move}
use Rattle.paper.specs.Dependence.{done, slots, done_of, placement_by, count_of}
use Rattle.bills.specs.declared.Record.{Record}
use Rattle.bills.specs.declared.Line.{Line}

-- "Last name in an untouched line is 65,536."
abbrev pub untouched : ℕ
untouched = most_crossings

-- ## Worked out afresh

-- a placement in a list of a place for each bay that a yard may have: those beyond the carriers are 0
abbrev pub places : Placement → List Bay
places p = p ++ replicate (most_bays - length p) 0

-- "the highest slot in which anything is done, or 0"
unfoldable pub highest_done : List ℕ → List ℕ → ℕ
highest_done [] ms = 0
highest_done (s ∷ ss) [] = 0
highest_done (s ∷ ss) (m ∷ ms) = let rest = highest_done ss ms in if done m then max s rest else rest

-- the highest done name of carrier c, or `last`; the list begins at the name i
unfoldable pub last_done : Carrier → ℕ → ℕ → List Crossing → List ℕ → ℕ
last_done c last i [] ms = last
last_done c last i (x ∷ xs) [] = last
last_done c last i (x ∷ xs) (m ∷ ms) =
    let here = if done m and eqb x.carrier c then i else last in
    last_done c here (suc i) xs ms

abbrev pub record_of : Placement → List Crossing → List ℕ → Record
record_of starts xs marks = record {
  at = places (placement_by starts xs marks);
  done = length (done_of xs marks);
  highest = highest_done (slots xs) marks;
}

-- an account line, of carrier c: "each with carrier, crossings billed and last name accepted"
abbrev pub line_of : List Crossing → List ℕ → Carrier → Line
line_of xs marks c = record {
  carrier = c;
  billed = count_of c (done_of xs marks);
  last = last_done c untouched 0 xs marks;
}

-- "The line list has exactly k entries": line c is carrier c's
abbrev pub lines_of : ℕ → List Crossing → List ℕ → List Line
lines_of k xs marks = map (line_of xs marks) (up_to k)

-- ## Changed in place

-- the record, at an accepted crossing with its slot
abbrev pub posted : Record → Crossing → ℕ → Record
posted rec x slot = record {
  at = move rec.at x;
  done = suc rec.done;
  highest = max rec.highest slot;
}

-- a line, at an accepted name of its carrier
abbrev pub charged : Line → ℕ → Line
charged line name = record {
  carrier = line.carrier;
  billed = suc line.billed;
  last = name;
}

abbrev pub no_line : Line
no_line = record { carrier = 0; billed = 0; last = 0 }

-- the lines: that of the crossing's carrier is charged, and no other changes
abbrev pub entered : List Line → Crossing → ℕ → List Line
entered lines x name = set lines x.carrier (charged (get_or lines x.carrier no_line) name)
