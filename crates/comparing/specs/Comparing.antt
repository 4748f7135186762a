-- Comparing two lists of crossings: what is refused, the answer, and each carrier's difference.
-- Assumes nothing.
use Rattle.std.specs.Prelude.{not, List, map, ℕ, eqb, ltb, leb, ℤ, pos, ◌-ℤ◌, length}
use Rattle.std.proofs.Math.Option.{Option, some, get_or}
use Rattle.paper.specs.Basics.{◌or◌, ◌>>=◌, or_else, when, find, up_to}
use Rattle.paper.specs.Limits.{most_carriers, most_crossings}
use Rattle.paper.specs.Yard.{Carrier, unpack, crossings}
use Rattle.paper.specs.Docket.{Refusal, size, start, room, number, carried, Verdict, granted, denied, unless_denied}
use Rattle.paper.specs.Dependence.{count_of}
pub use Rattle.leading.specs.Leading.{equal_leading, longer_by, part_by}

-- ## What is refused

abbrev pub carrier_of : ℕ → Carrier
carrier_of w = (unpack w).carrier

-- "the first carrier number above 253"
abbrev pub first_above : List ℕ → Option Carrier
first_above list = find (leb most_carriers) (map carrier_of list)

-- "1, a list over 65,536 crossings"
abbrev pub no_1 : List ℕ → List ℕ → Option Refusal
no_1 first second = when (ltb most_crossings (length first) or ltb most_crossings (length second)) size

-- "5, with the first carrier number above 253, first list first"
abbrev pub no_5 : List ℕ → List ℕ → Option Refusal
no_5 first second = or_else (first_above first) (first_above second) >>= λ c. some (start c)

-- "8, carrying 254, if the lent list has another length"
abbrev pub no_8 : ℕ → Option Refusal
no_8 lent = when (not (eqb lent most_carriers)) (room most_carriers)

-- "Refusals, in order"; `lent` is the length of the list of differences
unfoldable pub refusal : List ℕ → List ℕ → ℕ → Option Refusal
refusal first second lent = or_else (no_1 first second) (or_else (no_5 first second) (no_8 lent))

-- ## The answer

unfoldable pub comparison : List ℕ → List ℕ → ℕ → Verdict
comparison first second lent = unless_denied (refusal first second lent) (equal_leading first second)

-- ## Carrier by carrier

-- "the signed difference of crossings, second less first"
abbrev pub difference : List ℕ → List ℕ → Carrier → ℤ
difference first second c = pos (count_of c (crossings second)) -ℤ pos (count_of c (crossings first))

abbrev pub differences : List ℕ → List ℕ → List ℤ
differences first second = map (difference first second) (up_to most_carriers)

-- what stands in the lent list at the end: a refusal leaves it as it was
abbrev pub differences_by : List ℕ → List ℕ → List ℤ → Verdict → List ℤ
differences_by first second lent (granted equal) = differences first second
differences_by first second lent (denied r) = lent

-- ## How the answer is told: its number, 0 where it is granted, and its value

abbrev pub number_by : Verdict → ℕ
number_by (granted equal) = 0
number_by (denied r) = number r

abbrev pub value_by : Verdict → ℕ
value_by (granted equal) = equal
value_by (denied r) = get_or (carried r) 0
