-- Going on in code: what is logged at the end.
-- Assumes nothing.
use Rattle.std.specs.Prelude.{◌≡◌, List, [], ◌∷◌, ℕ, ◌≤◌, ◌<◌, ◌+◌, length, None, Some}
use Rattle.std.proofs.Math.Option.{Option, none, some}
use Rattle.paper.specs.Yard.{Bay, Carrier, Yard, after}
use Rattle.paper.specs.Procedure.{Made, Cleared, clear_once, clear}
use Rattle.moving.specs.Bounds.{room_crossing}
use Rattle.docket.specs.declared.Bay.{Bay as Numbered}
use Rattle.acting.specs.Acting.{Added}
use Rattle.acting.specs.declared.Tally.{Tally}
use Rattle.clear_on.specs.Pair.{Pair}
pub use Rattle.attempts.specs.Attempting.{AtJunction, Logged, Attempts}

-- ## Going on

pub record PairBy (at : Tally) (k : ℕ) (r : Pair) : Type 0 where
  pub few : (x y : Numbered) (m : Tally) → r ≡ Some (x, y, m) → (m.crossings ≤ at.crossings + k) × (at.crossings ≤ m.crossings)

-- as the paper's going on: two bays are kept and its crossings were logged, or there are not two
pub record GoesOn (o : Option Cleared) (log : List ℕ) (r : Pair) : Type 0 where
  pub both : (x y : Numbered) (m : Tally) → r ≡ Some (x, y, m)
      → (made : Made) × (o ≡ some (record { made = made; kept = x.0 ∷ y.0 ∷ [] })) × Logged made log m
  pub missing : r ≡ None → o ≡ none

-- ## After so much was made

-- a count has bits for both
pub record AfterAsks (made : Tally) (rest : Pair) : Type 0 where
  pub fits : (x y : Numbered) (more : Tally) → rest ≡ Some (x, y, more) → made.crossings + more.crossings < room_crossing

-- the same bays are kept, and what was made before is added
pub record After (made : Tally) (rest r : Pair) : Type 0 where
  pub both : (x y : Numbered) (sum : Tally) → r ≡ Some (x, y, sum) → (more : Tally) × (rest ≡ Some (x, y, more)) × Added made more sum
  pub missing : r ≡ None → rest ≡ None

-- ## The whole of clearing

-- two bays are kept, the crossings were logged, and the placement is that at which clearing once ended
pub record TwoCleared (Y : Yard) (L M : Carrier) (v b : Bay) (p p' log : List ℕ) (x y : ℕ) (m : Tally) : Type 0 where
  pub kept : (clear Y L M v b p).kept ≡ x ∷ y ∷ []
  pub logged : Logged (clear Y L M v b p).made log m
  pub moved : p' ≡ after p (clear_once Y v b p).made.moves

pub record ClearsTwo (Y : Yard) (L M : Carrier) (v b : Bay) (p p' log : List ℕ) (r : Pair) : Type 0 where
  pub both : (x y : Numbered) (m : Tally) → r ≡ Some (x, y, m) → TwoCleared Y L M v b p p' log x.0 y.0 m
  pub missing : r ≡ None → length (clear Y L M v b p).kept < 2
