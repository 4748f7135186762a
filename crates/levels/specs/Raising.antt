-- How levels are filled: bay after bay, level after level.
-- Assumes nothing.
use Rattle.std.specs.Prelude.{◌≡◌, Bool, true, List, ℕ, ◌+◌, ◌*◌, ◌≤◌, ◌<◌, length, take}
use Rattle.paper.specs.Basics.{◌and◌, ◌or◌}
use Rattle.words.specs.Sets.{mem_row, words, span, any_below}
use Rattle.levels.specs.Levels.{Levelled}

-- the rails of the n bays lead only to these
abbrev pub Rails : ℕ → List ℕ → Type 0
Rails n table = (x b : ℕ) → x < n → b < span → mem_row table x b ≡ true → b < n

-- b is as far from x as level j goes, or level j has it for a neighbour of x
abbrev pub above : ℕ → List ℕ → ℕ → ℕ → ℕ → Bool
above n table j x b = mem_row table (j * n + x) b or any_below (λ y. mem_row table x y and mem_row table (j * n + y) b) span

-- row x of level j + 1 was filled, and no other
pub record RowRaised (n j x : ℕ) (table table' : List ℕ) : Type 0 where
  pub row : (b : ℕ) → b < span → mem_row table' ((j + 1) * n + x) b ≡ above n table j x b
  pub others : (e b : ℕ) → (e ≡ (j + 1) * n + x → ⊥) → b < span → mem_row table' e b ≡ mem_row table e b

-- the first k rows of level j + 1 were filled, and nothing below that level
pub record LevelRaised (n j k : ℕ) (table table' : List ℕ) : Type 0 where
  pub rows : (x b : ℕ) → x < k → b < span → mem_row table' ((j + 1) * n + x) b ≡ above n table j x b
  pub lower : (e b : ℕ) → e < (j + 1) * n → b < span → mem_row table' e b ≡ mem_row table e b

-- the first m levels are levels, and the rails are as they were
pub record Raised (n m : ℕ) (table table' : List ℕ) : Type 0 where
  pub rises : (j x b : ℕ) → j + 2 ≤ m → x < n → b < span → mem_row table' ((j + 1) * n + x) b ≡ above n table' j x b
  pub rails : (x b : ℕ) → x < n → b < span → mem_row table' x b ≡ mem_row table x b

-- ## What is asked, what is said

-- there is room for the row, and its bay's rails lead only to the n bays
pub record RaiseRowAsks (n : ℕ) (table : List ℕ) (j x : ℕ) : Type 0 where
  pub inside : x < n
  pub room : (j + 2) * n * words ≤ length table
  pub rails : (b : ℕ) → b < span → mem_row table x b ≡ true → b < n

-- there is room for the level
pub record RaiseLevelAsks (n : ℕ) (table : List ℕ) (j : ℕ) : Type 0 where
  pub room : (j + 2) * n * words ≤ length table
  pub rails : Rails n table

-- the table has the rails
pub record RaiseAsks (n : ℕ) (table : List ℕ) : Type 0 where
  pub most : n ≤ span
  pub some_bay : 0 < n
  pub table_size : n * words ≤ length table
  pub rails : Rails n table

-- the table has r levels now, and its rails are as they were
pub record RaiseSays (n : ℕ) (table table' : List ℕ) (r : ℕ) : Type 0 where
  pub some_level : 1 ≤ r
  pub room : r * n * words ≤ length table'
  pub levelled : Levelled n (take (r * n * words) table')
  pub same_rails : (x b : ℕ) → x < n → b < span → mem_row table' x b ≡ mem_row table x b
