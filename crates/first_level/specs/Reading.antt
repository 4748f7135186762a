-- The first level of a table that has one of some bays.
-- Assumes nothing.
use Rattle.std.specs.Prelude.{◌≡◌, true, false, List, ℕ, ◌+◌, ◌*◌, ◌≤◌, ◌<◌, length}
use Rattle.paper.specs.Basics.{◌and◌}
use Rattle.paper.specs.Yard.{Bay}
use Rattle.words.specs.Sets.{mem_row, words, span, any_below}

-- level j is the first whose row for x has one of the bays, or there is no level j
pub record FirstLevel (n : ℕ) (table : List ℕ) (x : Bay) (bays : List ℕ) (j : ℕ) : Type 0 where
  pub fits : j * n * words ≤ length table
  pub hit : (j + 1) * n * words ≤ length table → any_below (λ b. mem_row table (j * n + x) b and mem_row bays 0 b) span ≡ true
  pub before : (i : ℕ) → i < j → any_below (λ b. mem_row table (i * n + x) b and mem_row bays 0 b) span ≡ false
