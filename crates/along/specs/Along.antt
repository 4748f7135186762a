-- What a carrier's turn asks, and what going its path says: distinct goals among the bays, one for each carrier; the finished ones at home; a path.
-- Assumes nothing.
use Rattle.std.specs.Prelude.{Bool, ◌≡◌, List, [], ◌∷◌, ℕ, ◌+◌, ◌*◌, ◌≤◌, ◌<◌, length, take, drop, if◌then◌else◌, None, Some}
use Rattle.std.proofs.Math.Option.{some}
use Rattle.paper.specs.Basics.{NoDup}
use Rattle.paper.specs.Path.{path_between}
use Rattle.paper.specs.Procedure.{Made, stuck, path_of as way, go, carry}
use Rattle.paper.specs.Yard.{Bay, Carrier, Yard, Placement, bay_of, carousel}
use Rattle.paper.proofs.Playing.{Apart}
use Rattle.rings.specs.Search.{Shown}
use Rattle.rings.specs.Ways.{path_of, path_length}
use Rattle.rings.specs.Path.{Path}
use Rattle.yard.specs.Table.{Table}
use Rattle.moving.specs.Bounds.{swap_most}
use Rattle.acting.specs.Acting.{Tabled, Tallied, nothing}
use Rattle.acting.specs.declared.Tally.{Tally}
use Rattle.go.specs.FromBelow.{Loopless, BaysBelow}
use Rattle.go.specs.Going.{plan_of, Linked}
use Rattle.along.specs.declared.ToGoal.{ToGoal}
use Rattle.along.specs.Gone.{Gone}

-- a goal for each carrier, each among the n bays and no two the same
pub record Goals (n : ℕ) (goals p : List ℕ) : Type 0 where
  pub many : length goals ≡ length p
  pub apart : Apart goals
  pub inside : (c : ℕ) → c < length goals → bay_of goals c < n

-- the carriers below r are at their goals
pub record HomeBelow (r : ℕ) (goals p : List ℕ) : Type 0 where
  pub home : (c : ℕ) → c < r → bay_of p c ≡ bay_of goals c

-- the goals of all carriers: that of r is v, and the carriers below r are at theirs
pub record Bound (n : ℕ) (p : List ℕ) (r : Carrier) (v : Bay) : Type 0 where
  pub goals : Placement
  pub each : Goals n goals p
  pub own : bay_of goals r ≡ v
  pub below : HomeBelow r goals p

-- the last of the bays is v, which is u where there are none
abbrev pub EndsAt : Bay → List Bay → Bay → Type 0
EndsAt u [] v = u ≡ v
EndsAt u (x ∷ xs) v = EndsAt x xs v

-- the path leads from u over rails to v, and has no bay twice
pub record OnPath (n : ℕ) (table : List ℕ) (u v : Bay) (path : List Bay) : Type 0 where
  pub ahead : List Bay
  pub starts : path ≡ u ∷ ahead
  pub linked : Linked n table u ahead
  pub once : NoDup (u ∷ ahead)
  pub ends : EndsAt u ahead v

-- the answer to whether the yard that the table shows is a carousel
abbrev pub KindTold : (n : ℕ) (table : List ℕ) → Bool → Type 0
KindTold n table answer = (Y : Yard) → Table Y n table → answer ≡ carousel Y

-- The path past the bays held, if the yard is a carousel; else past none.
pub record PathPast {n : ℕ} {table held : List ℕ} (s : Shown n table held) (u v : Bay) (room : List ℕ) (r : Path) : Type 0 where
  pub fits : path_length r ≤ n
  pub same : path_of r room ≡ path_between s.yard (if carousel s.yard then s.bays else []) u v

-- ## What is asked, what is said

abbrev pub PathPastSays : ℕ → (table held : List ℕ) → (u v : Bay) → (path : List ℕ) → Path → Type 0
PathPastSays n table held u v path r = (s : Shown n table held) → PathPast s u v path r

-- a carrier's turn: the set has the finished carriers' bays
pub record TurnAsks (to : ToGoal) (table p standing settled : List ℕ) : Type 0 where
  pub carrier_there : to.carrier.0 < length p
  pub loopless : Loopless (length standing) table
  pub kind : KindTold (length standing) table to.in_carousel
  pub below : BaysBelow to.carrier.0 p settled

-- there are goals of which its own is the one told
abbrev pub GoalAsks : ToGoal → (p standing : List ℕ) → Type 0
GoalAsks to p standing = Bound (length standing) p to.carrier.0 to.goal.0

-- carrier r has gone the path that it takes, whose bays are the first k in the room lent
pub record GoesThere (Y : Yard) (goals : Placement) (r : Carrier) (n : ℕ) (p out p' standing' empty' out' room : List ℕ) (k : ℕ) (m : Tally) : Type 0 where
  pub path : some (take k room) ≡ way Y goals r p
  pub made : Made
  pub goes : plan_of (go Y goals r (drop 1 (take k room)) p) ≡ some made
  pub played : Tallied made n p p' standing' empty' out nothing out' m

-- it has gone there, or it is stuck
pub record Goes (Y : Yard) (goals : Placement) (r : Carrier) (n : ℕ) (p out p' standing' empty' out' room : List ℕ) (z : Gone) : Type 0 where
  pub there : (k : ℕ) (m : Tally) → z ≡ Some (k, m) → GoesThere Y goals r n p out p' standing' empty' out' room k m
  pub nowhere : z ≡ None → carry Y goals r p ≡ stuck r

-- r is finished then, and the path is no longer than there are bays
pub record Arrives (n : ℕ) (r : Carrier) (p settled : List ℕ) (z : Gone) : Type 0 where
  pub fits : (k : ℕ) (m : Tally) → z ≡ Some (k, m) → k ≤ n
  pub few : (k : ℕ) (m : Tally) → z ≡ Some (k, m) → m.crossings ≤ swap_most * k
  pub below : (k : ℕ) (m : Tally) → z ≡ Some (k, m) → BaysBelow (r + 1) p settled

pub record GoAlongSays (to : ToGoal) (table p standing out p' standing' empty' settled' out' room : List ℕ) (z : Gone) : Type 0 where
  pub arrives : Arrives (length standing) to.carrier.0 p' settled' z
  pub goes : (t : Tabled (length standing) table) (b : GoalAsks to p standing)
      → Goes t.yard b.goals to.carrier.0 (length standing) p out p' standing' empty' out' room z
