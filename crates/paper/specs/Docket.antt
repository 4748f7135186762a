-- Numbers on a refused docket: the table. Rows 1 to 15 are document 01's, one definition each: row N is `no-N`, the refusal with what it
-- carries, or none. Rows 16 to 20 and 25 are document 02's, 26 and 27 are of files that we added; what each is given for stands with its request.
-- Assumes nothing.
use Rattle.std.specs.Prelude.{Bool, not, List, [], ◌∷◌, ℕ, suc, ◌+◌, ◌/◌, ◌%◌, eqb, ltb, leb, length, if◌then◌else◌}
use Rattle.std.proofs.Math.Option.{Option, none, some}
use Rattle.paper.specs.Basics.{◌or◌, ◌>>=◌, when, any, find, first_bad, elem, up_to}
use Rattle.paper.specs.Yard.{Bay, Carrier, Rail, Yard, Placement, Crossing, fewest_bays, most_bays, most_rails, most_crossings, kept_empty, bay_of, lowest_open, open_bays, move, joined, legal}
use Rattle.paper.specs.Order.{Order}
use Rattle.paper.specs.Path.{nearest_first}
use Rattle.paper.specs.Procedure.{Outcome, planned, stuck}
use Rattle.paper.specs.Dependence.{undone_before, out_of_order}

-- the refusals in the table's order, each with the number that it carries, if any
pub data Refusal : Type 0 where
  size : Refusal
  rail apart : ℕ → Refusal
  crowd : Refusal
  start goal stopped room illegal missed : ℕ → Refusal
  mismarked unknown : Refusal
  early bad_map bad_scenario bad_survey : ℕ → Refusal
  ended long_piece disagrees edition begun : Refusal
  bad_plan bad_reports : ℕ → Refusal

-- a row's number, and what it carries
abbrev pub row : Refusal → ℕ × Option ℕ
row size = (1, none)
row (rail i) = (2, some i)
row (apart b) = (3, some b)
row crowd = (4, none)
row (start c) = (5, some c)
row (goal c) = (6, some c)
row (stopped c) = (7, some c)
row (room l) = (8, some l)
row (illegal i) = (9, some i)
row (missed c) = (10, some c)
row mismarked = (11, none)
row unknown = (12, none)
row (early e) = (13, some e)
row (bad_map l) = (14, some l)
row (bad_scenario l) = (15, some l)
row (bad_survey l) = (16, some l)
row ended = (17, none)
row long_piece = (18, none)
row disagrees = (19, none)
row edition = (20, none)
row begun = (25, none)
row (bad_plan l) = (26, some l)
row (bad_reports l) = (27, some l)

abbrev pub number : Refusal → ℕ
number r = (row r).0

abbrev pub carried : Refusal → Option ℕ
carried r = (row r).1

-- What a function answers that hands back a number: granted, with that number (a length, a count), or denied.
pub data Verdict : Type 0 where
  granted : ℕ → Verdict
  denied : Refusal → Verdict

-- denied if there is a refusal, else granted
abbrev pub unless_denied : Option Refusal → ℕ → Verdict
unless_denied none n = granted n
unless_denied (some r) n = denied r

-- the rails, from the list of their ends
unfoldable pub rails_of : List Bay → List Rail
rails_of [] = []
rails_of (a ∷ []) = []
rails_of (a ∷ b ∷ rest) = (a, b) ∷ rails_of rest

-- a yard by its bays and rail ends, and the yard of an order, which every rule is given
abbrev pub yard_by : ℕ → List Bay → Yard
yard_by n ends = record { bays = n; rails = rails_of ends }

abbrev pub yard_of : Order → Yard
yard_of o = yard_by o.bays o.ends

-- 1 size: "n or rail count outside its limit, odd number of rail ends, start and goal of different length, or a lent plan over
-- 65,536 crossings". The last number is the lent plan's crossings, 0 where none is lent.
unfoldable pub bad_size : Order → ℕ → Bool
bad_size o lent =
    ltb o.bays fewest_bays or ltb most_bays o.bays or ltb most_rails (length o.ends / 2) or eqb (length o.ends % 2) 1
    or not (eqb (length o.starts) (length o.goals)) or ltb most_crossings lent

abbrev pub no_1 : Order → ℕ → Option Refusal
no_1 o lent = when (bad_size o lent) size

-- 2 rail: "an end is n or more, both ends equal, or a pair given before in either direction"; the first bad rail
unfoldable pub bad_rail : ℕ → List Rail → Rail → Bool
bad_rail n before r =
    leb n r.0 or leb n r.1 or eqb r.0 r.1 or joined (record { bays = n; rails = before }) r.0 r.1

abbrev pub no_2 : Order → Option Refusal
no_2 o = first_bad (bad_rail o.bays) 0 [] (rails_of o.ends) >>= λ i. some (rail i)

-- 3 apart: "some bay cannot be reached from bay 0"; the lowest such bay
unfoldable pub apart_bay : Yard → Option Bay
apart_bay Y = find (λ b. not (elem b (nearest_first Y [] (lowest_open Y)))) (open_bays Y)

abbrev pub no_3 : Order → Option Refusal
no_3 o = apart_bay (yard_of o) >>= λ b. some (apart b)

-- 4 crowd: "k + 2 > n"
abbrev pub no_4 : Order → Option Refusal
no_4 o = when (ltb o.bays (length o.starts + kept_empty)) crowd

-- 5 start, 6 goal: "a bay is n or more, or already used"; the first bad carrier
unfoldable pub bad_place : ℕ → List Bay → Bay → Bool
bad_place n used b = leb n b or elem b used

abbrev pub no_5 : Order → Option Refusal
no_5 o = first_bad (bad_place o.bays) 0 [] o.starts >>= λ c. some (start c)

abbrev pub no_6 : Order → Option Refusal
no_6 o = first_bad (bad_place o.bays) 0 [] o.goals >>= λ c. some (goal c)

-- 7 stopped: "the procedure below fails"; the carrier that could not step
abbrev pub no_7 : Outcome → Option Refusal
no_7 (planned xs) = none
no_7 (stuck c) = some (stopped c)

-- 8 room: "the result is longer than the lent list, or a plan is over 65,536"; the needed length
abbrev pub no_8 : ℕ → ℕ → Option Refusal
no_8 lent needed = when (ltb lent needed or ltb most_crossings needed) (room needed)

-- 9 crossing: "a lent plan has an illegal crossing"; the first one's name, where the list begins at the name i
unfoldable pub first_illegal : Yard → Placement → ℕ → List Crossing → Option ℕ
first_illegal Y p i [] = none
first_illegal Y p i (x ∷ xs) = let rest = first_illegal Y (move p x) (suc i) xs in if legal Y p x then rest else some i

abbrev pub no_9 : Yard → Placement → List Crossing → Option Refusal
no_9 Y starts xs = first_illegal Y starts 0 xs >>= λ i. some (illegal i)

-- 10 goal missed: "the plan is legal and some carrier isn't home"; the lowest such carrier, at the placement that the plan leaves
unfoldable pub not_home : Placement → Placement → Option Carrier
not_home goals p = find (λ c. not (eqb (bay_of p c) (bay_of goals c))) (up_to (length goals))

abbrev pub no_10 : Placement → Placement → Option Refusal
no_10 goals p = not_home goals p >>= λ c. some (missed c)

-- 11 marks: "mark count is not the plan's length, a mark is neither 0 nor 1, or a crossing is marked done before an earlier one
-- it depends on"
unfoldable pub bad_marks : List Crossing → List ℕ → Bool
bad_marks xs marks =
    not (eqb (length marks) (length xs)) or any (λ m. not (eqb m 0 or eqb m 1)) marks or out_of_order xs marks

abbrev pub no_11 : List Crossing → List ℕ → Option Refusal
no_11 xs marks = when (bad_marks xs marks) mismarked

-- 12 unknown: "the name is not in the plan"
abbrev pub no_12 : List Crossing → ℕ → Option Refusal
no_12 xs name = when (leb (length xs) name) unknown

-- 13 early: "an earlier crossing it depends on is undone"; the lowest such name
abbrev pub no_13 : List Crossing → List ℕ → ℕ → Option Refusal
no_13 xs marks name = undone_before xs marks name >>= λ e. some (early e)

-- 14 map, 15 scenario: "the file breaks its layout"; the first bad line, as the layout's reading gives it
abbrev pub no_14 : ℕ → Refusal
no_14 line = bad_map line

abbrev pub no_15 : ℕ → Refusal
no_15 line = bad_scenario line
