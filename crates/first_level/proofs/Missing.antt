-- No level before the one that is read has one of the bays.
-- Assumes nothing.
use mathlib.Core.Path.{◌≡◌}
use mathlib.Core.Bool.{Bool, false}
use mathlib.Core.List.{List}
use Prim.Native.Nat.{ℕ, ◌+◌, ◌*◌, ◌≤◌, ◌<◌}
use lib.ListN.{length}
use Rattle.paper.specs.Basics.{◌and◌}
use Rattle.paper.specs.Yard.{Bay}
use Rattle.words.specs.Sets.{mem_row, words, span, any_below}

module _ (n : ℕ) (table : List ℕ) (x : Bay) (bays : List ℕ) where
  -- level j has one
  abbrev meets_at : ℕ → Bool
  meets_at j = any_below (λ b. mem_row table (j * n + x) b and mem_row bays 0 b) span

  -- there are j levels, and none of them has one
  pub record Missed (j : ℕ) : Type 0 where
    pub fits : j * n * words ≤ length table
    pub before : (i : ℕ) → i < j → meets_at i ≡ false
