-- The second edition of slots, for depots with block signals: a carrier may roll into a bay in the slot in which another rolls out.
-- Assumes nothing.
use Rattle.std.specs.Prelude.{Bool, List, [], ◌∷◌, ℕ, zero, suc, max, eqb, if◌then◌else◌}
use Rattle.paper.specs.Basics.{highest_of}
use Rattle.paper.specs.Yard.{Bay, Carrier, Crossing}

-- a crossing with its slot
abbrev pub Timed : Type 0
Timed = Crossing × ℕ

-- the crossings, each with its slot
unfoldable pub with_slots : List ℕ → List Crossing → List Timed
with_slots [] xs = []
with_slots (s ∷ ss) [] = []
with_slots (s ∷ ss) (x ∷ xs) = (x, s) ∷ with_slots ss xs

-- Earlier crossings are held with the latest first. The slot of the latest one that passes the test, or 0.
unfoldable pub latest : (Crossing → Bool) → List Timed → ℕ
latest test [] = zero
latest test (m ∷ met) = let rest = latest test met in if test m.0 then m.1 else rest

-- a crossing of carrier c; a crossing out of bay b
abbrev pub is_of : Carrier → Crossing → Bool
is_of c x = eqb x.carrier c

abbrev pub leaves : Bay → Crossing → Bool
leaves b x = eqb x.from b

-- "Along one carrier slots rise strictly. A crossing into a bay has a slot no lower than the latest earlier crossing out of that bay.
-- Each slot is the lowest that these two rules permit", from 1.
unfoldable pub train_slot : List Timed → Crossing → ℕ
train_slot met x = max (suc (latest (is_of x.carrier) met)) (latest (leaves x.to) met)

unfoldable pub train_slots_after : List Timed → List Crossing → List ℕ
train_slots_after met [] = []
train_slots_after met (x ∷ xs) = let s = train_slot met x in s ∷ train_slots_after ((x, s) ∷ met) xs

unfoldable pub train_slots : List Crossing → List ℕ
train_slots xs = train_slots_after [] xs

-- the highest of the slots, or 0
abbrev pub highest_slot : List ℕ → ℕ
highest_slot ss = highest_of ss
