-- One turn of the pass over a plan: the slot of the crossing at hand, from the last slot of each carrier and the slot of the latest leaving of
-- each bay, and both tables then.
-- Assumes nothing.
use Rattle.std.specs.Prelude.{◌≡◌, List, ℕ, ◌+◌, max, get_or, set}
use Rattle.paper.specs.Yard.{Crossing}

-- one more than its carrier's last, or that of the latest leaving of the bay that it enters, whichever is higher
abbrev pub slot_after : List ℕ → List ℕ → Crossing → ℕ
slot_after carriers left x = max (get_or carriers x.carrier 0 + 1) (get_or left x.to 0)

-- what a turn leaves: its answer r and the two tables
pub record Turned (carriers left : List ℕ) (x : Crossing) (r : ℕ) (carriers' left' : List ℕ) : Type 0 where
  pub slot : r ≡ slot_after carriers left x
  pub of_carriers : carriers' ≡ set carriers x.carrier r
  pub of_left : left' ≡ set left x.from r
