-- The vault and its numbers: yard, placement, crossing, and when a crossing is legal.
-- Assumes nothing.
use Rattle.std.specs.Prelude.{Bool, true, false, not, List, [], ◌∷◌, map, reverse, ℕ, ◌+◌, ◌-◌, ◌*◌, ◌/◌, ◌%◌, ◌^◌, eqb, ltb, leb, length, get_or, set, if◌then◌else◌}
use Rattle.paper.specs.Basics.{◌and◌, ◌or◌, filter, any, elem, place_of, up_to}
pub use Rattle.paper.specs.Limits.{fewest_bays, most_bays, most_rails, most_crossings, kept_empty}

-- Bays are numbered 0 to n − 1, carriers from 0.
abbrev pub Bay : Type 0
Bay = ℕ

abbrev pub Carrier : Type 0
Carrier = ℕ

-- an unordered pair of bays
abbrev pub Rail : Type 0
Rail = Bay × Bay

pub record Yard : Type 0 where
  pub bays : ℕ
  pub rails : List Rail

-- The bays that carriers may stand at, rising, and the lowest of them. Today every bay is open.
abbrev pub open_bays : Yard → List Bay
open_bays Y = up_to Y.bays

abbrev pub lowest_open : Yard → Bay
lowest_open Y = 0

-- A placement names the bay of each carrier.
abbrev pub Placement : Type 0
Placement = List Bay

-- where carrier c stands
abbrev pub bay_of : Placement → Carrier → Bay
bay_of p c = get_or p c 0

-- the carrier at bay b, if it is occupied
abbrev pub carrier_at : Placement → Bay → Carrier
carrier_at p b = place_of b p

abbrev pub is_empty : Placement → Bay → Bool
is_empty p b = not (elem b p)

-- the set of occupied bays, among n
unfoldable pub occupied : ℕ → Placement → List Bay
occupied n p = filter (λ b. elem b p) (up_to n)

-- "The number of empty bays is counted from the set of occupied bays"
abbrev pub empty_bays : ℕ → Placement → ℕ
empty_bays n p = n - length (occupied n p)

-- A crossing is (carrier, from, to).
pub record Crossing : Type 0 where
  pub carrier : Carrier
  pub from : Bay
  pub to : Bay

abbrev pub crossing : Carrier → Bay → Bay → Crossing
crossing c a b = record { carrier = c; from = a; to = b }

-- The crossing with from and to exchanged, and the reverse of a list: crossings in reverse order, each exchanged.
abbrev pub turned : Crossing → Crossing
turned x = crossing x.carrier x.to x.from

unfoldable pub reverse_of : List Crossing → List Crossing
reverse_of xs = map turned (reverse xs)

-- Its number in a lent plan: carrier times 2^32, plus from times 2^16, plus to.
unfoldable pub pack : Crossing → ℕ
pack x = x.carrier * 2 ^ 32 + x.from * 2 ^ 16 + x.to

-- "so every number reads as some crossing"
unfoldable pub unpack : ℕ → Crossing
unpack w = crossing (w / 2 ^ 32) (w / 2 ^ 16 % 2 ^ 16) (w % 2 ^ 16)

-- the crossings of a lent plan
abbrev pub crossings : List ℕ → List Crossing
crossings plan = map unpack plan

-- Its name is its place in the plan, from 0.
abbrev pub named : List Crossing → ℕ → Crossing
named xs i = get_or xs i (crossing 0 0 0)

-- the placement that a crossing leaves, and that a list of them leaves
abbrev pub move : Placement → Crossing → Placement
move p x = set p x.carrier x.to

unfoldable pub after : Placement → List Crossing → Placement
after p [] = p
after p (x ∷ xs) = after (move p x) xs

-- Past refusal 2 every rule sees the rails through this section alone.
module _ (Y : Yard) where
  -- a rail joins a and b
  unfoldable pub joined : Bay → Bay → Bool
  joined a b = any (λ r. (eqb a r.0 and eqb b r.1) or (eqb a r.1 and eqb b r.0)) Y.rails

  -- the bays that a reaches by a rail, rising
  unfoldable pub neighbours : Bay → List Bay
  neighbours a = filter (joined a) (open_bays Y)

  -- how many rails a bay has
  abbrev pub rails_at : Bay → ℕ
  rails_at a = length (neighbours a)

  -- "three rails or more"
  unfoldable pub junction : Bay → Bool
  junction v = leb 3 (rails_at v)

  -- A carousel: "every bay has exactly two rails".
  unfoldable pub carousel : Bool
  carousel = not (any (λ v. not (eqb (rails_at v) 2)) (open_bays Y))

  -- "It is legal at a placement if the carrier stands at from, a rail joins from and to, and to is empty."
  unfoldable pub legal : Placement → Crossing → Bool
  legal p x =
      ltb x.carrier (length p)
      and eqb (bay_of p x.carrier) x.from
      and joined x.from x.to
      and is_empty p x.to

  -- "A plan is legal if each crossing is legal at the placement left by those before it."
  unfoldable pub legal_plan : Placement → List Crossing → Bool
  legal_plan p [] = true
  legal_plan p (x ∷ xs) = let rest = legal_plan (move p x) xs in if legal p x then rest else false
