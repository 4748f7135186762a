-- What a round of a search asks and says.
-- Assumes nothing.
use Rattle.std.specs.Prelude.{◌≡◌, not, List, ℕ, ◌*◌, ◌≤◌, ◌<◌, length, take}
use Rattle.paper.specs.Basics.{◌and◌}
use Rattle.words.specs.Sets.{mem, words, span}
use Rattle.queue.specs.Queue.{Met, Standing, Passed}

-- the first `count` bays of the room are the queue of some search, and those from `start` on are to be passed
pub record RingAsks (n start count : ℕ) (table seen ring met before : List ℕ) : Type 0 where
  pub bays_fit : n ≤ span
  pub table_size : n * words ≤ length table
  pub some_left : start < count
  pub most : count ≤ n
  pub seen_size : length seen ≡ words
  pub ring_size : length ring ≡ words
  pub room : n ≤ length met
  pub before_size : length before ≡ span
  pub standing : Standing n table seen met before start count

-- what they led to stands behind them, and the ring is what was not seen before
pub record RingSays (n start count : ℕ) (table seen met before seen' ring' met' before' : List ℕ) (r : ℕ) : Type 0 where
  pub passed : (held : List ℕ) (x : ℕ) → Met n table held x seen (take count met) before start
      → Passed n table held x met count seen' met' before' count r
  pub ringed : (b : ℕ) → b < span → mem ring' b ≡ mem seen' b and not (mem seen b)
