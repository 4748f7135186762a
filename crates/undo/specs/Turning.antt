-- Crossings read back from the list: turned, with the two carriers traded.
-- Assumes nothing.
use Rattle.std.specs.Prelude.{◌≡◌, List, map, ℕ, ◌<◌, ◌+◌, ◌^◌, length, get_or}
use Rattle.std.proofs.lemmas.List.Edits.{sets}
use Rattle.paper.specs.Procedure.{trade, undo}
use Rattle.paper.specs.Yard.{Carrier, Crossing, crossing, pack, unpack, named}

-- (the code's crossing has the same name)
abbrev pub Crossings : Type 0
Crossings = List Crossing

-- the crossing the other way, with l and m traded; and its number from the crossing's number
abbrev pub turned_back : Carrier → Carrier → Crossing → Crossing
turned_back l m x = crossing (trade l m x.carrier) x.to x.from

abbrev pub turned : Carrier → Carrier → ℕ → ℕ
turned l m w = pack (turned_back l m (unpack w))

-- bays of 16 bits
pub record Small (xs : List Crossing) : Type 0 where
  pub from_low : (j : ℕ) → (named xs j).from < 2 ^ 16
  pub to_low : (j : ℕ) → (named xs j).to < 2 ^ 16

-- the list holds the crossings from `from` on, as far as it goes
pub record Holds (out : List ℕ) (from : ℕ) (xs : List Crossing) : Type 0 where
  pub at : (j : ℕ) → j < length xs → from + j < length out → get_or out (from + j) 0 ≡ pack (named xs j)

-- the numbers of the paper's undo
abbrev pub numbers : Carrier → Carrier → List Crossing → List ℕ
numbers l m xs = map pack (undo l m xs)

-- undo leaves these from `at` on, of any crossings that the list holds from `from` on
abbrev pub UndoSays : Carrier → Carrier → (from many at : ℕ) → (out out' : List ℕ) → Type 0
UndoSays l m from many at out out' = (xs : Crossings) → Small xs → Holds out from xs → length xs ≡ many → out' ≡ sets out at (numbers l m xs)
