-- A table that goes on above its rails: level after level, each with a row for every bay. Level 0 has the bays one rail from it, level j those at
-- most j + 1 rails from it, carriers disregarded.
-- Assumes nothing.
use Rattle.std.specs.Prelude.{◌≡◌, List, ℕ, ◌+◌, ◌*◌, ◌≤◌, ◌<◌, length}
use Rattle.paper.specs.Basics.{◌and◌, ◌or◌}
use Rattle.words.specs.Sets.{mem_row, words, span, any_below}

-- As far as the table is so long, each level is the one below it and what that has for the neighbours.
pub record Levelled (n : ℕ) (table : List ℕ) : Type 0 where
  pub rises : (j x b : ℕ) → (j + 2) * n * words ≤ length table → x < n → b < span
      → mem_row table ((j + 1) * n + x) b ≡ mem_row table (j * n + x) b or any_below (λ y. mem_row table x y and mem_row table (j * n + y) b) span
