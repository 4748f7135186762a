-- What going on asks and says: the paper's in the yard that the table shows, with the leader at the junction and the follower behind it.
-- Assumes nothing.
use Rattle.std.specs.Prelude.{List, ℕ, ◌<◌, length}
use Rattle.paper.specs.Yard.{Bay}
use Rattle.paper.proofs.Playing.{Sound}
use Rattle.moving.specs.Bounds.{attempt_most, clear_most}
use Rattle.acting.specs.Acting.{Tabled, nothing}
use Rattle.attempts.specs.FromBelow.{Coupled}
use Rattle.attempts.specs.Asking.{Arrived}
use Rattle.either_way.specs.Either.{go_on_with}
use Rattle.attempts.specs.declared.Lead.{Lead}
use Rattle.attempts.specs.declared.OneKept.{OneKept}
use Rattle.clear_on.specs.Going.{PairBy, GoesOn, ClearsTwo}
use Rattle.clear_on.specs.Pair.{Pair}

-- the paper's going on
pub record GoOnSays (one : OneKept) (table p standing log : List ℕ) (r : Pair) : Type 0 where
  pub few : PairBy nothing attempt_most r
  pub goes_on : (t : Tabled (length standing) table)
      → Arrived one.lead one.behind.0 p
      → GoesOn (go_on_with t.yard one p) log r

-- the whole of clearing, with the follower at b
pub record ClearTwoAsks (lead : Lead) (b : Bay) (p standing : List ℕ) : Type 0 where
  pub coupled : Coupled lead.couple p
  pub junction : lead.junction.0 < length standing
  pub behind : b < length standing

pub record ClearTwoSays (lead : Lead) (b : Bay) (table p standing p' log : List ℕ) (r : Pair) : Type 0 where
  pub few : PairBy nothing clear_most r
  pub clears : (t : Tabled (length standing) table)
      → Sound t.yard
      → Arrived lead b p
      → ClearsTwo t.yard lead.couple.leader.0 lead.couple.follower.0 lead.junction.0 b p p' log r
