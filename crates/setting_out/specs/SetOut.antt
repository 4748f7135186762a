-- Where a trip may begin, before anything is dropped.
-- Assumes nothing.
use Rattle.std.specs.Prelude.{◌≡◌, false, List, ℕ, ◌<◌, length, replicate}
use Rattle.paper.specs.Yard.{crossings}
use Rattle.words.specs.Sets.{mem}
use Rattle.trips.proofs.Naming.{NoTrip}

-- no trip begins at the name
abbrev pub StaysOut : List ℕ → ℕ → Type 0
StaysOut plan k = NoTrip (replicate (length plan) 0) (crossings plan) k

-- below m no trip begins at a name that is not in the set
abbrev pub SetOut : List ℕ → List ℕ → ℕ → Type 0
SetOut plan todo m = (k : ℕ) → k < m → mem todo k ≡ false → StaysOut plan k

-- one name more: nothing left the set, and no trip begins at the name unless it is in the set
pub record OneMore (plan todo : List ℕ) (name : ℕ) (todo' : List ℕ) : Type 0 where
  pub fewer : (k : ℕ) → mem todo' k ≡ false → mem todo k ≡ false
  pub here : mem todo' name ≡ false → StaysOut plan name
