-- The choice in code: the rails of a bay are counted in its row of the table, and of the bays that pass a test one is taken.
-- Assumes nothing.
use Rattle.std.specs.Prelude.{◌≡◌, Bool, true, false, List, ℕ, ◌+◌, ◌*◌, ◌≤◌, ◌<◌, length}
use Rattle.paper.specs.Basics.{filter, up_to}
use Rattle.paper.specs.Path.{Rather}
use Rattle.words.specs.Sets.{mem, mem_row, words, span, Lowest}

-- how many rails lead to a bay
abbrev pub rails : List ℕ → ℕ → ℕ
rails table a = length (filter (mem_row table a) (up_to span))

-- each bay that passes has its row in the table
abbrev pub Rowed : List ℕ → (ℕ → Bool) → Type 0
Rowed table f = (b : ℕ) → b < span → f b ≡ true → b * words + words ≤ length table

-- of the bays that pass, the one with fewest rails, and only then the lowest number; span where there is none
pub record Taken (table : List ℕ) (f : ℕ → Bool) (r : ℕ) : Type 0 where
  pub upto : r ≤ span
  pub hit : r < span → f r ≡ true
  pub missing : span ≤ r → (b : ℕ) → b < span → f b ≡ false
  pub before : r < span → (b : ℕ) → b < span → f b ≡ true → Rather (rails table) r b

-- ## What is asked

-- the two lowest bays of the set; the second is span where there is no other
pub record SeveralAsks (table set : List ℕ) (first second : ℕ) : Type 0 where
  pub set_size : length set ≡ words
  pub rowed : Rowed table (mem set)
  pub there : first < span
  pub lowest : Lowest (mem set) 0 span first
  pub next : Lowest (mem set) (first + 1) span second

-- the wanted bays of row a of the table that are not held
pub record FreeAsks (table : List ℕ) (a : ℕ) (wanted held : List ℕ) : Type 0 where
  pub row : a * words + words ≤ length table
  pub rowed : Rowed table (mem_row table a)
  pub wanted_size : length wanted ≡ words
  pub held_size : length held ≡ words
