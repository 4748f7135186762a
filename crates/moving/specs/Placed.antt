-- A placement kept three ways: the bay of each carrier, the carrier at each bay, and the set of empty bays. Crossings are played on
-- it, counted, and stored where there is room.
-- Assumes nothing.
use Rattle.std.specs.Prelude.{◌≡◌, List, [], ◌∷◌, ◌++◌, map, ℕ, ◌+◌, ◌≤◌, ◌<◌, length, get_or, set, take}
use Rattle.std.proofs.Math.Option.{Option, none, some}
use Rattle.paper.specs.Basics.{In, Out}
use Rattle.paper.specs.Yard.{Bay, Yard, Crossing, crossing, carrier_at, bay_of, is_empty, after, pack}
use Rattle.paper.specs.Procedure.{shift}
use Rattle.paper.proofs.Playing.{Apart}
use Rattle.paper.proofs.Vacating.{Shiftable}
use Rattle.words.specs.Sets.{mem, words, span}
use Rattle.moving.specs.Bounds.{room_crossing}

-- Who stands at each of the n bays and which are empty say the same as the placement; at an empty bay stands the carrier `length p`,
-- which there is not.
pub record Placed (n : ℕ) (p standing empty : List ℕ) : Type 0 where
  pub apart : Apart p
  pub inside : (c : ℕ) → c < length p → bay_of p c < n
  pub few : length p ≤ n
  pub stands : (b : ℕ) → b < n → get_or standing b 0 ≡ carrier_at p b
  pub empties : (b : ℕ) → b < n → mem empty b ≡ is_empty p b

-- Where there is room for them all, the numbers stand in the list from `at` on, and what stood before is as it was. Nothing is said of what stands
-- behind them.
pub record Stored (vs out : List ℕ) (at : ℕ) (out' : List ℕ) : Type 0 where
  pub long : length out' ≡ length out
  pub front : at + length vs ≤ length out → take (at + length vs) out' ≡ take at out ++ vs

-- The crossings xs were played on p, counted from `at` on, and stored where there is room for them all.
pub record Played (xs : List Crossing) (n : ℕ) (p p' standing' empty' out : List ℕ) (at : ℕ) (out' : List ℕ) (r : ℕ) : Type 0 where
  pub moved : p' ≡ after p xs
  pub placed : Placed n p' standing' empty'
  pub stored : Stored (map pack xs) out at out'
  pub counted : r ≡ at + length xs

-- The carrier that is shown at a has b for its bay, is shown at b too, and its crossing is stored where the list is so long.
pub record MovedOn (a b : Bay) (p standing out : List ℕ) (at : ℕ) (p' standing' out' : List ℕ) (r : ℕ) : Type 0 where
  pub moved : p' ≡ set p (get_or standing a 0) b
  pub shown : standing' ≡ set standing b (get_or standing a 0)
  pub stored : out' ≡ set out at (pack (crossing (get_or standing a 0) a b))
  pub counted : r ≡ at + 1

-- nothing is changed
pub record Unchanged (p standing empty out p' standing' empty' out' : List ℕ) : Type 0 where
  pub same_placement : p' ≡ p
  pub same_standing : standing' ≡ standing
  pub same_empty : empty' ≡ empty
  pub same_list : out' ≡ out

-- An action of the paper in code: where it fails nothing is changed, and else its crossings were played from the list's front on.
pub record Acted (o : Option (List Crossing)) (n : ℕ) (p standing empty out p' standing' empty' out' : List ℕ) : Type 0 where
  pub fails : o ≡ none → Unchanged p standing empty out p' standing' empty' out'
  pub plays : (xs : List Crossing) → o ≡ some xs → Played xs n p p' standing' empty' out 0 out' (length xs)

-- the carriers on the path can be shifted, in some yard of which the path's bays are among the n
pub record CanShift (n : ℕ) (p path : List ℕ) : Type 0 where
  pub yard : Yard
  pub apart : Apart p
  pub shiftable : Shiftable yard p apart path
  pub within : (b : ℕ) → In b path → b < n

-- ## What is asked, what is said

-- a crossing from a to b: a carrier stands at a and none at b
pub record CrossAsks (a b : Bay) (p standing empty : List ℕ) (at : ℕ) : Type 0 where
  pub from_inside : a < length standing
  pub to_inside : b < length standing
  pub most : length standing ≤ span
  pub empty_size : length empty ≡ words
  pub counts : at < room_crossing
  pub full : In a p
  pub free : Out b p
  pub placed : Placed (length standing) p standing empty

-- it is the only one that was played
abbrev pub CrossSays : Bay → Bay → (p standing out : List ℕ) → ℕ → (p' standing' empty' out' : List ℕ) → ℕ → Type 0
CrossSays a b p standing out at p' standing' empty' out' r =
    Played (crossing (carrier_at p a) a b ∷ []) (length standing) p p' standing' empty' out at out' r

-- the carriers on the path move one bay on: its last bay is empty
pub record ShiftAsks (path : List Bay) (p standing empty : List ℕ) (at : ℕ) : Type 0 where
  pub most : length standing ≤ span
  pub empty_size : length empty ≡ words
  pub counts : at + length path < room_crossing
  pub placed : Placed (length standing) p standing empty
  pub can_shift : CanShift (length standing) p path

-- the paper's shift was played
abbrev pub ShiftSays : List Bay → (p standing out : List ℕ) → ℕ → (p' standing' empty' out' : List ℕ) → ℕ → Type 0
ShiftSays path p standing out at p' standing' empty' out' r = Played (shift p path) (length standing) p p' standing' empty' out at out' r
