-- When a search goes by a queue.
-- Assumes nothing.
use Rattle.std.specs.Prelude.{◌≡◌, Bool, false, not, List, ℕ, ◌+◌, ◌*◌, ◌≤◌, ◌<◌, ltb, length}
use Rattle.paper.specs.Basics.{◌and◌}
use Rattle.paper.specs.Yard.{Bay}
use Rattle.words.specs.Sets.{mem, words, span}
use Rattle.choice.specs.Taking.{rails}
use Rattle.rings.specs.Ways.{PathAsks}

-- where so few rails lead to a bay, a queue is faster than rings
abbrev pub few : List ℕ → ℕ → Bool
few table a = ltb (rails table a) 4

-- a queue serves from u to v: few rails lead to both, and neither is held
abbrev pub by_queue : (table held : List ℕ) → (u v : ℕ) → Bool
by_queue table held u v = (few table u and few table v) and (not (mem held u) and not (mem held v))

-- ## What is asked

-- both bays have rows in the table
pub record ByQueueAsks (table held : List ℕ) (u v : ℕ) : Type 0 where
  pub start_row : u * words + words ≤ length table
  pub goal_row : v * words + words ≤ length table
  pub held_size : length held ≡ words
  pub start_inside : u < span
  pub goal_inside : v < span

-- the path from u to v, neither of them held
pub record PathByQueueAsks (n : ℕ) (table held path : List ℕ) (u v : Bay) : Type 0 where
  pub asks : PathAsks n table held path u v
  pub start_unheld : mem held u ≡ false
  pub goal_unheld : mem held v ≡ false
