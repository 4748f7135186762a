-- Attempts in code: the two ways, and what an attempt leaves in the log.
-- Assumes nothing.
use Rattle.std.specs.Prelude.{◌≡◌, Bool, true, false, List, map, ℕ, ◌≤◌, length, take, None, Some}
use Rattle.std.proofs.Math.Option.{Option, none, some}
use Rattle.paper.specs.Yard.{Bay, Carrier, Yard, Placement, bay_of, pack}
use Rattle.paper.specs.Procedure.{Made, Action, aside, around}
use Rattle.acting.specs.Acting.{AsFar}
use Rattle.acting.specs.declared.Tally.{Tally}
use Rattle.acting.specs.Tried.{Tried}

-- the leader stands at v and the follower at b
pub record AtJunction (L M : Carrier) (v b : Bay) (p : Placement) : Type 0 where
  pub at_v : bay_of p L ≡ v
  pub at_b : bay_of p M ≡ b

abbrev pub way_of : Bool → Yard → Carrier → Carrier → Bay → Bay → Bay → Bay → Action
way_of false Y L M v b e x = aside Y v b e x
way_of true Y L M v b e x = around Y L M v b e x

-- the log begins with the crossings, if they are not more than its places
pub record Logged (made : Made) (log : List ℕ) (m : Tally) : Type 0 where
  pub counted : m.crossings ≡ length made.moves
  pub stored : m.crossings ≤ length log → take m.crossings log ≡ map pack made.moves
  pub parks : AsFar m.parked made.parked
  pub few : m.parked ≤ m.crossings

-- as the paper's attempt: logged, or failed with nothing said of the log
pub record Attempts (o : Option Made) (log : List ℕ) (r : Tried) : Type 0 where
  pub fails : r ≡ None → o ≡ none
  pub done : (m : Tally) → r ≡ Some m → (made : Made) × (o ≡ some made) × Logged made log m
