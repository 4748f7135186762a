-- The table's column "Given exactly if", row by row, in its words: what has to be so, and not how it is tested.
-- Assumes nothing.
use Rattle.std.specs.Prelude.{List, ◌⊎◌, ◌≡◌, ℕ, ◌<◌, ◌≤◌, ◌+◌, ◌/◌, ◌%◌, length, get_or, take}
use Rattle.paper.specs.Yard.{Bay, Carrier, Rail, Yard, Placement, Crossing, fewest_bays, most_bays, most_rails, most_crossings, kept_empty, bay_of, named, after}
use Rattle.paper.specs.Order.{Order}
use Rattle.paper.specs.Path.{Reached}
use Rattle.paper.specs.Docket.{rails_of, yard_of}
use Rattle.exactly.specs.First.{FirstOf}

-- ## 1 to 6

-- 1: "n or rail count outside its limit, odd number of rail ends, start and goal of different length, or a lent plan over 65,536 crossings"
pub data WrongSize (o : Order) (lent : ℕ) : Type 0 where
  few_bays : o.bays < fewest_bays → WrongSize o lent
  many_bays : most_bays < o.bays → WrongSize o lent
  many_rails : most_rails < length o.ends / 2 → WrongSize o lent
  odd_ends : length o.ends % 2 ≡ 1 → WrongSize o lent
  other_length : (length o.starts ≡ length o.goals → ⊥) → WrongSize o lent
  long_plan : most_crossings < lent → WrongSize o lent

abbrev pub rail_at : List Rail → ℕ → Rail
rail_at rails i = get_or rails i (0, 0)

-- "in either direction"
abbrev pub SamePair : Rail → Rail → Type 0
SamePair r q = ((r.0 ≡ q.0) × (r.1 ≡ q.1)) ⊎ ((r.0 ≡ q.1) × (r.1 ≡ q.0))

-- 2: "an end is n or more, both ends equal, or a pair given before in either direction"
pub data BadRail (n : ℕ) (rails : List Rail) (i : ℕ) : Type 0 where
  first_end : n ≤ (rail_at rails i).0 → BadRail n rails i
  second_end : n ≤ (rail_at rails i).1 → BadRail n rails i
  equal_ends : (rail_at rails i).0 ≡ (rail_at rails i).1 → BadRail n rails i
  given_before : (j : ℕ) → j < i → SamePair (rail_at rails i) (rail_at rails j) → BadRail n rails i

-- "first bad rail"
abbrev pub FirstBadRail : ℕ → List Bay → ℕ → Type 0
FirstBadRail n ends i = FirstOf (length (rails_of ends)) (BadRail n (rails_of ends)) i

-- 3: "some bay cannot be reached from bay 0", the "lowest such bay"
pub record LowestApart (o : Order) (b : Bay) : Type 0 where
  pub there : b < o.bays
  pub unreached : Reached (yard_of o) b → ⊥
  pub lower_reached : (a : Bay) → a < b → Reached (yard_of o) a

-- 4: "k + 2 > n"
abbrev pub Crowded : ℕ → Placement → Type 0
Crowded n starts = n < length starts + kept_empty

-- 5 and 6: "a bay is n or more, or already used"
pub data BadPlace (n : ℕ) (p : Placement) (c : Carrier) : Type 0 where
  no_bay : n ≤ bay_of p c → BadPlace n p c
  used : (d : Carrier) → d < c → bay_of p d ≡ bay_of p c → BadPlace n p c

-- "first bad carrier"
abbrev pub FirstBadPlace : ℕ → Placement → Carrier → Type 0
FirstBadPlace n p c = FirstOf (length p) (BadPlace n p) c

-- ## 8

-- "the result is longer than the lent list, or a plan is over 65,536"
abbrev pub TooLong : ℕ → ℕ → Type 0
TooLong lent needed = (lent < needed) ⊎ (most_crossings < needed)

-- ## 9 and 10

-- "a rail joins from and to"
abbrev pub Railed : Yard → Bay → Bay → Type 0
Railed Y a b = (i : ℕ) × (i < length Y.rails) × SamePair (a, b) (rail_at Y.rails i)

-- "the carrier stands at from, a rail joins from and to, and to is empty"
pub record Legal (Y : Yard) (p : Placement) (x : Crossing) : Type 0 where
  pub carried : x.carrier < length p
  pub stands : bay_of p x.carrier ≡ x.from
  pub railed : Railed Y x.from x.to
  pub free : (c : Carrier) → c < length p → bay_of p c ≡ x.to → ⊥

-- legal "at the placement left by those before it"
abbrev pub LegalAt : Yard → Placement → List Crossing → ℕ → Type 0
LegalAt Y starts xs i = Legal Y (after starts (take i xs)) (named xs i)

-- 9: "a lent plan has an illegal crossing": "the first one's name"
pub record FirstIllegal (Y : Yard) (starts : Placement) (xs : List Crossing) (i : ℕ) : Type 0 where
  pub there : i < length xs
  pub against : LegalAt Y starts xs i → ⊥
  pub earlier : (j : ℕ) → j < i → LegalAt Y starts xs j

-- 10: "some carrier isn't home": the "lowest such carrier"
pub record LowestAway (goals p : Placement) (c : Carrier) : Type 0 where
  pub there : c < length goals
  pub away : bay_of p c ≡ bay_of goals c → ⊥
  pub lower_home : (b : Carrier) → b < c → bay_of p b ≡ bay_of goals b

-- ## 11 to 13

-- "they have the same carrier or share any bay"
pub data Depends (x y : Crossing) : Type 0 where
  same_carrier : x.carrier ≡ y.carrier → Depends x y
  from_from : x.from ≡ y.from → Depends x y
  from_to : x.from ≡ y.to → Depends x y
  to_from : x.to ≡ y.from → Depends x y
  to_to : x.to ≡ y.to → Depends x y

-- 1 is done
abbrev pub mark : List ℕ → ℕ → ℕ
mark marks i = get_or marks i 0

-- 11: "mark count is not the plan's length, a mark is neither 0 nor 1, or a crossing is marked done before an earlier one it depends on"
pub data BadMarks (xs : List Crossing) (marks : List ℕ) : Type 0 where
  other_count : (length marks ≡ length xs → ⊥) → BadMarks xs marks
  no_mark : (i : ℕ) → i < length marks → (mark marks i ≡ 0 → ⊥) → (mark marks i ≡ 1 → ⊥) → BadMarks xs marks
  too_soon : (e i : ℕ) → e < i → i < length xs → Depends (named xs i) (named xs e) → mark marks i ≡ 1 → (mark marks e ≡ 1 → ⊥) → BadMarks xs marks

-- 12: "the name is not in the plan"
abbrev pub NotInPlan : List Crossing → ℕ → Type 0
NotInPlan xs name = length xs ≤ name

-- 13: "an earlier crossing it depends on is undone": the "lowest such name"
abbrev pub LowestUndone : List Crossing → List ℕ → ℕ → ℕ → Type 0
LowestUndone xs marks name e = FirstOf name (λ i. Depends (named xs name) (named xs i) × (mark marks i ≡ 1 → ⊥)) e
