-- What an attempt asks, and what its second way says: the paper's in the yard that the table shows, with the leader at the junction and the follower behind it.
-- Assumes nothing.
use Rattle.std.specs.Prelude.{Bool, true, List, ℕ, ◌<◌, length}
use Rattle.paper.specs.Basics.{Out}
use Rattle.paper.specs.Procedure.{Action}
use Rattle.paper.specs.Yard.{Bay, Yard, Placement}
use Rattle.moving.specs.Bounds.{attempt_most}
use Rattle.acting.specs.Acting.{Tabled, nothing, Within, Tries}
use Rattle.acting.specs.Tried.{Tried}
use Rattle.bring.specs.Bringing.{Coupled}
use Rattle.attempts.specs.Attempting.{AtJunction, way_of}
use Rattle.attempts.specs.declared.Lead.{Lead}
use Rattle.attempts.specs.declared.OneKept.{OneKept}

-- ## In the code's words

-- the leader stands at the junction and the follower at b
abbrev pub Arrived : Lead → Bay → Placement → Type 0
Arrived lead b p = AtJunction lead.couple.leader.0 lead.couple.follower.0 lead.junction.0 b p

-- an attempt with x, the second way or the first
abbrev pub way_with : Bool → Yard → OneKept → Bay → Action
way_with second Y one x p =
    way_of second Y one.lead.couple.leader.0 one.lead.couple.follower.0 one.lead.junction.0 one.behind.0 one.kept.0 x p

-- ## What is asked, what is said

-- leader and follower are two, the bays are in the yard, and the kept one is empty
pub record KeptAsks (one : OneKept) (p standing : List ℕ) : Type 0 where
  pub coupled : Coupled one.lead.couple p
  pub junction : one.lead.junction.0 < length standing
  pub behind : one.behind.0 < length standing
  pub kept : one.kept.0 < length standing
  pub free : Out one.kept.0 p

-- an attempt with x
pub record AttemptAsks (one : OneKept) (x : Bay) (p standing : List ℕ) : Type 0 where
  pub around : KeptAsks one p standing
  pub inside : x < length standing

-- the second way with x, on a placement that is used up
pub record AroundSays (one : OneKept) (x : Bay) (table p standing out p' standing' empty' out' : List ℕ) (r : Tried) : Type 0 where
  pub few : Within nothing attempt_most r
  pub tries : (t : Tabled (length standing) table)
      → Arrived one.lead one.behind.0 p
      → Tries (way_with true t.yard one x p) (length standing) p out nothing p' standing' empty' out' r
