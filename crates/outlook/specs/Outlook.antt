-- A blocked junction in code: what is asked, and what is said where it is found blocked.
-- Assumes nothing.
use Rattle.std.specs.Prelude.{◌≡◌, Bool, true, false, List, ℕ, ◌+◌, ◌*◌, ◌≤◌, ◌<◌, length}
use Rattle.paper.specs.Yard.{Bay, Yard, Placement, is_empty}
use Rattle.blocked.specs.Blocked.{Blocked}
use Rattle.words.specs.Sets.{mem, mem_row, words, span}
use Rattle.yard.specs.Table.{Table}

-- a neighbour of v that is in the set
pub record SeenBeside (table seen : List ℕ) (v x : Bay) : Type 0 where
  pub low : x < span
  pub joins : mem_row table v x ≡ true
  pub is_seen : mem seen x ≡ true

-- of three different neighbours of v one is not in the set
abbrev pub AtMostTwo : (table seen : List ℕ) (v : Bay) → Type 0
AtMostTwo table seen v =
    (x y z : Bay) → (x ≡ y → ⊥) → (x ≡ z → ⊥) → (y ≡ z → ⊥) → SeenBeside table seen v x → SeenBeside table seen v y → SeenBeside table seen v z → ⊥

-- The bays that are shut: with each of them, but for v, all that rails join to it, and none of them, but for v, is free.
pub record Shut (v : Bay) (table free shut : List ℕ) : Type 0 where
  pub holds : mem shut v ≡ true
  pub closed : (a b : Bay) → a < span → b < span → mem shut a ≡ true → (a ≡ v → ⊥) → mem_row table a b ≡ true → mem shut b ≡ true
  pub none_free : (b : Bay) → b < span → mem shut b ≡ true → (b ≡ v → ⊥) → mem free b ≡ false

-- the table is that of some yard
pub record Charted (n : ℕ) (table : List ℕ) : Type 0 where
  pub yard : Yard
  pub joins : Table yard n table

-- ## What is asked, what is said

-- v has its row in the table
pub record ThreeAsks (table seen : List ℕ) (v : Bay) : Type 0 where
  pub row : v * words + words ≤ length table
  pub seen_size : length seen ≡ words

pub record ThreeSays (table seen : List ℕ) (v : Bay) (z : Bool) : Type 0 where
  pub few : z ≡ false → AtMostTwo table seen v

-- a bay of a yard that the table shows
pub record SideAsks (n : ℕ) (x : Bay) (table free shut : List ℕ) : Type 0 where
  pub most : n ≤ span
  pub table_size : n * words ≤ length table
  pub free_size : length free ≡ words
  pub shut_size : length shut ≡ words
  pub inside : x < n
  pub charted : Charted n table

-- whatever junction they were shut for, they are still, and maybe more
pub record SideSays (table free shut shut' : List ℕ) (r : ℕ) : Type 0 where
  pub most : r ≤ 1
  pub stays : (v : Bay) → v < span → Shut v table free shut → Shut v table free shut'

-- three bays of a yard that the table shows
pub record OutlookAsks (n : ℕ) (v u w : Bay) (table empty : List ℕ) : Type 0 where
  pub most : n ≤ span
  pub table_size : n * words ≤ length table
  pub empty_size : length empty ≡ words
  pub junction_inside : v < n
  pub first_inside : u < n
  pub second_inside : w < n
  pub charted : Charted n table

-- v is blocked in the yard that the table shows, with the empty bays that the set shows
abbrev pub OutlookSays : (n : ℕ) (v u w : Bay) (table empty : List ℕ) → Type 0
OutlookSays n v u w table empty =
    (Y : Yard) → Table Y n table → (p : Placement) → ((b : ℕ) → b < n → mem empty b ≡ is_empty p b) → Blocked Y p u w v
