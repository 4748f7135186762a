-- The two rules of the second edition, for any numbering of a plan's crossings. `t i` is the number of the crossing named i.
-- Assumes nothing.
use Rattle.std.specs.Prelude.{◌≡◌, List, ℕ, ◌<◌, ◌≤◌, length}
use Rattle.paper.specs.Yard.{Crossing, named}

-- e is the latest crossing before i that leads out of the bay into which i leads
pub record LatestOut (xs : List Crossing) (e i : ℕ) : Type 0 where
  pub earlier : e < i
  pub out : (named xs e).from ≡ (named xs i).to
  pub none_between : (k : ℕ) → e < k → k < i → (named xs k).from ≡ (named xs i).to → ⊥

pub record TwoRules (xs : List Crossing) (t : ℕ → ℕ) : Type 0 where
  pub from_one : (i : ℕ) → i < length xs → 1 ≤ t i
  -- "Along one carrier slots rise strictly."
  pub rises : (e i : ℕ) → e < i → i < length xs → (named xs e).carrier ≡ (named xs i).carrier → t e < t i
  -- "A crossing into a bay has a slot no lower than the latest earlier crossing out of that bay."
  pub enters : (e i : ℕ) → i < length xs → LatestOut xs e i → t e ≤ t i
