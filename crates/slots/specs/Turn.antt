-- One turn of the pass over a plan: the slot of the crossing at hand, from the last slot of each carrier and each bay, and both tables then.
-- Assumes nothing.
use Rattle.std.specs.Prelude.{◌≡◌, List, ℕ, suc, max, get_or, set}
use Rattle.paper.specs.Yard.{Crossing}

-- one more than the highest that its carrier and its bays have met
unfoldable pub slot_after : List ℕ → List ℕ → Crossing → ℕ
slot_after carriers bays x = suc (max (get_or carriers x.carrier 0) (max (get_or bays x.from 0) (get_or bays x.to 0)))

abbrev pub carriers_after : List ℕ → List ℕ → Crossing → List ℕ
carriers_after carriers bays x = set carriers x.carrier (slot_after carriers bays x)

abbrev pub bays_after : List ℕ → List ℕ → Crossing → List ℕ
bays_after carriers bays x = let s = slot_after carriers bays x in set (set bays x.from s) x.to s

-- what a turn leaves: its answer r and the two tables
pub record Turned (carriers bays : List ℕ) (x : Crossing) (r : ℕ) (carriers' bays' : List ℕ) : Type 0 where
  pub slot : r ≡ slot_after carriers bays x
  pub of_carriers : carriers' ≡ carriers_after carriers bays x
  pub of_bays : bays' ≡ bays_after carriers bays x
