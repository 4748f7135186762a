-- One ring more, with no row kept of it: for a search that mostly ends in the first rings.
-- Assumes nothing.
use Rattle.std.specs.Prelude.{◌≡◌, not, List, ℕ, ◌<◌}
use Rattle.paper.specs.Basics.{◌and◌, ◌or◌}
use Rattle.words.specs.Sets.{mem, span, any_below, reaches}

-- the ring is what is beside the ring before it and was not seen, and it is seen now
pub record Widened (table seen ring seen' ring' : List ℕ) : Type 0 where
  pub ringed : (b : ℕ) → b < span → mem ring' b ≡ any_below (reaches table ring b) span and not (mem seen b)
  pub all_seen : (b : ℕ) → b < span → mem seen' b ≡ mem seen b or mem ring' b
