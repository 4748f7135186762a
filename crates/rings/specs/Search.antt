-- What the words of a ring search stand for: a yard with its held bays, and its rings, one to a row.
-- Assumes nothing.
use Rattle.std.specs.Prelude.{◌≡◌, true, false, List, [], ◌⊎◌, ℕ, ◌+◌, ◌*◌, ◌≤◌, ◌<◌, length, get_or}
use Rattle.paper.specs.Basics.{elem, In}
use Rattle.paper.specs.Yard.{Bay, Yard}
use Rattle.paper.specs.Path.{rings}
use Rattle.words.specs.Sets.{mem, mem_row, words, span, Kept}
use Rattle.yard.specs.Table.{Table}
use Rattle.rings.specs.Widening.{Widened}

-- ## One more ring

-- there are bays for a ring behind ring d, and a row for it; the ring's bays have rows in the table
pub record NextRingAsks (n : ℕ) (table : List ℕ) (d : ℕ) (seen ring rows : List ℕ) : Type 0 where
  pub table_size : n * words ≤ length table
  pub seen_size : length seen ≡ words
  pub ring_size : length ring ≡ words
  pub rows_size : (d + 2) * words ≤ length rows
  pub more : d + 1 < n
  pub inside : (b : ℕ) → b < span → mem ring b ≡ true → b < n

-- from ring d and the bays seen so far to ring d + 1, which becomes row d + 1
pub record NextRingSays (table : List ℕ) (d : ℕ) (seen ring rows seen' ring' rows' : List ℕ) : Type 0 where
  pub widened : Widened table seen ring seen' ring'
  pub kept : Kept rows (d + 1) ring' rows'

-- ## Ring by ring

-- after row r there is a row for another ring, or no other ring
abbrev pub GoesOn : ℕ → List ℕ → ℕ → Type 0
GoesOn n rows r = (n ≤ r + 1) ⊎ ((r + 2) * words ≤ length rows)

-- ring d around x
abbrev pub around : Yard → List Bay → Bay → ℕ → List Bay
around Y held x d = get_or (rings Y held x) d []

-- The words show a yard and the bays held in it. A contract speaks of every yard and list that they show.
pub record Shown (n : ℕ) (table held : List ℕ) : Type 0 where
  pub yard : Yard
  pub bays : List Bay
  pub joins : Table yard n table
  pub holds : (b : ℕ) → b < span → mem held b ≡ elem b bays

-- What every search is lent: the table has a row for each of the n bays, and the set has the held ones.
pub record Lent (n : ℕ) (table held : List ℕ) : Type 0 where
  pub most : n ≤ span
  pub table_size : n * words ≤ length table
  pub held_size : length held ≡ words
  pub shown : Shown n table held

module _ {n : ℕ} {table held : List ℕ} (s : Shown n table held) (x : Bay) where
  abbrev pub ring_on : ℕ → List Bay
  ring_on d = around s.yard s.bays x d

  -- What the search answers: the rows up to r are the rings; r is the first ring with a wanted bay, or else the last ring, or the last for
  -- which there is a row.
  pub record Searched (wanted rows : List ℕ) (r : ℕ) : Type 0 where
    pub far : r < n
    pub rowing : (i b : ℕ) → i ≤ r → b < span → mem_row rows i b ≡ elem b (ring_on i)
    pub before : (i b : ℕ) → i < r → In b (ring_on i) → mem wanted b ≡ false
    pub roomy : (r + 1) * words ≤ length rows
    pub last : GoesOn n rows r → ((b : ℕ) → In b (ring_on r) → mem wanted b ≡ false) → (i : ℕ) → r < i → ring_on i ≡ []

-- the search around x for a wanted bay, with a row for the first ring at least
pub record SearchAsks (n : ℕ) (table held : List ℕ) (x : Bay) (wanted rows : List ℕ) : Type 0 where
  pub lent : Lent n table held
  pub inside : x < n
  pub wanted_size : length wanted ≡ words
  pub first_row : words ≤ length rows

pub record SearchSays (n : ℕ) (table held : List ℕ) (x : Bay) (wanted rows' : List ℕ) (r : ℕ) : Type 0 where
  pub searched : (s : Shown n table held) → Searched s x wanted rows' r
