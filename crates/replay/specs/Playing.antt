-- What playing a plan starts from and what it leaves, and how the code's answers read as the paper's.
-- Assumes nothing.
use Rattle.std.specs.Prelude.{◌≡◌, Bool, true, List, ℕ, ◌*◌, ◌≤◌, ◌<◌, ltb, length, if◌then◌else◌, Err, None, Ok, Some}
use Rattle.std.proofs.Math.Option.{Option, none, some}
use Rattle.paper.specs.Basics.{elem}
use Rattle.paper.specs.Yard.{Yard, Bay, Carrier, Placement, Crossing, bay_of, after, legal}
use Rattle.paper.specs.Docket.{first_illegal}
use Rattle.paper.proofs.Playing.{Apart}
use Rattle.paper.proofs.Marking.{flag}
use Rattle.words.specs.Sets.{words, span}
use Rattle.yard.specs.Table.{Table}
use Rattle.replay.specs.Legality.{Legality}
use Rattle.replay.specs.Away.{Away}

-- a place for each bay; the bays of the placement are marked by 1, and no other
pub record Occupied (at : Placement) (occupied : List ℕ) : Type 0 where
  pub long : length occupied ≡ span
  pub marks : (b : Bay) → b < span → flag occupied b ≡ elem b at

-- There are rows for so many bays, which are no more than a row holds, and every carrier stands in one of these.
pub record InRows (rows : ℕ) (table : List ℕ) (at : Placement) : Type 0 where
  pub few : rows ≤ span
  pub long : rows * words ≤ length table
  pub inside : (c : Carrier) → c < length at → bay_of at c < rows

-- The table is the yard's and has its rows, the placement has its carriers at bays of the yard, one to a bay, and the marks are the placement's.
pub record Standing (Y : Yard) (rows : ℕ) (table : List ℕ) (at : Placement) (occupied : List ℕ) : Type 0 where
  pub rails : Table Y Y.bays table
  pub few : Y.bays ≤ rows
  pub apart : Apart at
  pub inside : (c : Carrier) → c < length at → bay_of at c < Y.bays
  pub held : Occupied at occupied

-- whether a crossing is legal; what passes has its places in the table, the marks and the placement
pub record Judged (rows : ℕ) (table : List ℕ) (at : Placement) (occupied : List ℕ) (x : Crossing) (r : Bool) : Type 0 where
  pub fits : r ≡ true → (x.carrier < length at) × (x.from < rows) × (x.to < rows)
  pub right : (Y : Yard) → Standing Y rows table at occupied → r ≡ legal Y at x

-- the first illegal crossing, and where the carriers stand if there is none
pub record Played (Y : Yard) (at : Placement) (xs : List Crossing) (found : Option ℕ) (at' : Placement) : Type 0 where
  pub first : found ≡ first_illegal Y at 0 xs
  pub moved : found ≡ none → at' ≡ after at xs

-- the same for every yard whose table, placement and marks these are
abbrev pub PlayedFrom : ℕ → List ℕ → Placement → List ℕ → List Crossing → Option ℕ → Placement → Type 0
PlayedFrom rows table at occupied xs found at' = (Y : Yard) → Standing Y rows table at occupied → Played Y at xs found at'

-- of so many crossings the first i are legal: the next is the first that is not, if there is one
unfoldable pub legal_to : ℕ → ℕ → Option ℕ
legal_to i count = if ltb i count then some i else none

abbrev pub legality_of : Legality → Option ℕ
legality_of (Ok tt) = none
legality_of (Err i) = some i

abbrev pub away_of : Away → Option ℕ
away_of None = none
away_of (Some c) = some c.0
