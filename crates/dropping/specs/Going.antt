-- Where the work stands between two cuts: which crossings are dropped, which names are still to be looked at, and how far the look has come.
-- Assumes nothing.
use Rattle.std.specs.Prelude.{◌≡◌, true, false, List, ℕ, suc, ◌≤◌, ◌<◌, ◌+◌, ◌*◌, ◌-◌, length, get_or}
use Rattle.paper.specs.Limits.{most_crossings}
use Rattle.paper.specs.Yard.{Yard, Placement, Crossing, crossings, legal_plan}
use Rattle.paper.proofs.Playing.{Apart}
use Rattle.words.specs.Sets.{mem}
use Rattle.trips.specs.Trips.{shorten}
use Rattle.trips.specs.Names.{left}
use Rattle.trips.proofs.Naming.{NoTrip}

-- legal in some yard, from a placement with one carrier to a bay
pub record Lawful (xs : List Crossing) : Type 0 where
  pub yard : Yard
  pub start : Placement
  pub apart : Apart start
  pub lawful : legal_plan yard start xs ≡ true

pub record Going (plan gone todo : List ℕ) (i : ℕ) : Type 0 where
  pub long_gone : length gone ≡ length plan
  pub room : length plan ≤ 64 * length todo
  pub held : 64 * length todo ≤ most_crossings
  pub within : i ≤ 64 * length todo
  pub lawful : Lawful (left gone (crossings plan))
  -- nothing is lost: what is still in the plan has the same shortening
  pub whole : shorten (left gone (crossings plan)) ≡ shorten (crossings plan)
  -- a name that need not be looked at begins no trip, and below i no name need be
  pub tested : (k : ℕ) → k < length plan → get_or gone k 0 ≡ 0 → mem todo k ≡ false → NoTrip gone (crossings plan) k
  pub below : (k : ℕ) → k < i → get_or gone k 0 ≡ 0 → mem todo k ≡ false

-- each look drops a crossing or goes on to the next name
unfoldable pub rank : List ℕ → List ℕ → ℕ → ℕ
rank plan gone i = length (left gone (crossings plan)) * suc (length plan) + (length plan - i)
