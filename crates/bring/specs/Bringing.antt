-- Bringing in code: a leader goes into a bay and its follower into the bay that it left.
-- Assumes nothing.
use Rattle.std.specs.Prelude.{◌≡◌, List, [], ◌∷◌, ℕ, ◌*◌, ◌≤◌, ◌<◌, length, get_or}
use Rattle.paper.specs.Basics.{Out}
use Rattle.paper.specs.Procedure.{Made, Action, only, bring}
use Rattle.paper.specs.Yard.{Bay, Carrier, Yard, Placement, crossing, bay_of}
use Rattle.words.specs.Sets.{words, span}
use Rattle.moving.specs.Bounds.{entry_most}
use Rattle.moving.specs.Placed.{Placed}
use Rattle.acting.specs.Acting.{nothing, Tallied, Within, TriesAs}
use Rattle.acting.specs.declared.Tally.{Tally}
use Rattle.acting.specs.Tried.{Tried}
use Rattle.bring.specs.declared.Couple.{Couple}

-- l goes into x, and m follows into l's bay
abbrev pub entering : Carrier → Carrier → Bay → Placement → Made
entering L M x p = only (crossing L (bay_of p L) x ∷ crossing M (bay_of p M) (bay_of p L) ∷ [])

-- (the code's function has the same name)
abbrev pub brings : Couple → List Bay → Yard → Action
brings couple path Y p = bring Y couple.leader.0 couple.follower.0 path p

-- ## What is asked, what is said

-- leader and follower are two of the carriers
pub record Coupled (couple : Couple) (p : List ℕ) : Type 0 where
  pub leads : couple.leader.0 < length p
  pub follows : couple.follower.0 < length p
  pub differ : couple.follower.0 ≡ couple.leader.0 → ⊥

-- the two enter the empty bay x
pub record EnterAsks (couple : Couple) (x : Bay) (p standing empty : List ℕ) : Type 0 where
  pub coupled : Coupled couple p
  pub inside : x < length standing
  pub most : length standing ≤ span
  pub empty_size : length empty ≡ words
  pub free : Out x p
  pub placed : Placed (length standing) p standing empty

abbrev pub EnterSays : Couple → Bay → (p standing out p' standing' empty' out' : List ℕ) → Tally → Type 0
EnterSays couple x p standing out p' standing' empty' out' r =
    Tallied (entering couple.leader.0 couple.follower.0 x p) (length standing) p p' standing' empty' out nothing out' r

-- one bay of the path
pub record OneAsks (couple : Couple) (x : Bay) (p standing : List ℕ) : Type 0 where
  pub coupled : Coupled couple p
  pub inside : x < length standing

-- the whole path: its bays are in the yard, and not more than a yard has
pub record BringAsks (couple : Couple) (path : List Bay) (p standing : List ℕ) : Type 0 where
  pub coupled : Coupled couple p
  pub inside : (k : ℕ) → k < length path → get_or path k 0 < length standing
  pub short : length path ≤ span

-- the paper's bring along the path
pub record BringSays (couple : Couple) (path : List Bay) (table p standing out p' standing' empty' out' : List ℕ) (r : Tried) : Type 0 where
  pub few : Within nothing (entry_most * length path) r
  pub tries : TriesAs (brings couple path) table p standing out nothing p' standing' empty' out' r
