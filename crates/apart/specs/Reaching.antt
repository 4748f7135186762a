-- What the search from bay 0 promises.
-- Assumes nothing.
use Rattle.std.specs.Prelude.{◌≡◌, true, List, [], ℕ, ◌+◌, ◌*◌, ◌≤◌, ◌<◌, length}
use Rattle.paper.specs.Basics.{elem}
use Rattle.paper.specs.Yard.{Bay, Yard}
use Rattle.paper.specs.Path.{nearest_first}
use Rattle.words.specs.Sets.{mem, mem_row, words, span}
use Rattle.first_bad.specs.Table.{Table}

-- the table has a row for each of n bays, and no other bay in these rows
pub record Closed (n : ℕ) (table : List ℕ) : Type 0 where
  pub rows : n * words ≤ length table
  pub inside : (a b : Bay) → a < n → b < span → mem_row table a b ≡ true → b < n

-- the bays of the set have their rows, and these have no bay past their first word
pub record FirstWords (table set : List ℕ) : Type 0 where
  pub rows : (a : Bay) → mem set a ≡ true → a * words + words ≤ length table
  pub first : (a b : Bay) → mem set a ≡ true → b < span → mem_row table a b ≡ true → b * words < span

-- the set holds the bays that are reached from bay 0 by the rails of the table, whichever yard it is the table of
pub record Reaches (n : ℕ) (table set : List ℕ) : Type 0 where
  pub same : (Y : Yard) → Table Y n table → (b : Bay) → b < span → mem set b ≡ elem b (nearest_first Y [] 0)
