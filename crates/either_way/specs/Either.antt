-- The first attempt that succeeds, in code; and what an attempt and those with all the others ask and say.
-- Assumes nothing.
use Rattle.std.specs.Prelude.{◌≡◌, Bool, true, false, List, [], ◌∷◌, ℕ, ◌≤◌, length, None, Some}
use Rattle.std.proofs.Math.Option.{Option, none, some}
use Rattle.paper.specs.Basics.{without}
use Rattle.paper.specs.Procedure.{Made, Cleared, first_kept, go_on}
use Rattle.paper.specs.Yard.{Bay, Yard, Placement, neighbours}
use Rattle.words.specs.Sets.{mem, words}
use Rattle.moving.specs.Bounds.{attempt_most}
use Rattle.acting.specs.Acting.{Tabled, nothing, Within}
use Rattle.acting.specs.Tried.{Tried}
use Rattle.keeping.specs.Keeping.{Among, from}
use Rattle.keeping.specs.Kept.{Kept}
use Rattle.attempts.specs.Attempting.{Logged, Attempts}
use Rattle.attempts.specs.Asking.{Arrived, way_with, KeptAsks}
use Rattle.attempts.specs.declared.OneKept.{OneKept}
use Rattle.docket.specs.declared.Bay.{Bay as Numbered}
use Rattle.acting.specs.declared.Tally.{Tally}
use Rattle.either_way.specs.declared.Way.{Way}
use Rattle.either_way.specs.declared.Way.TheVariants.{First, Second}

-- whether it is the second way
abbrev pub is_second : Way → Bool
is_second First = false
is_second Second = true

abbrev pub KeptWithin : ℕ → Kept → Type 0
KeptWithin k (Some (x, m)) = m.crossings ≤ k
KeptWithin k None = Unit {0}

-- as the paper's first attempt that succeeds: x is kept with e, and its crossings were logged
pub record FirstKept (o : Option Cleared) (e : Bay) (log : List ℕ) (r : Kept) : Type 0 where
  pub one : (x : Numbered) (m : Tally) → r ≡ Some (x, m) → (made : Made) × (o ≡ some (record { made = made; kept = x.0 ∷ e ∷ [] })) × Logged made log m
  pub nothing : r ≡ None → o ≡ none

-- the set has the neighbours of v except b and e
abbrev pub Others : Yard → Bay → Bay → Bay → ℕ → List ℕ → Type 0
Others Y v b e n others = without (b ∷ e ∷ []) (neighbours Y v) ≡ from (mem others) 0 n

-- the paper's going on
abbrev pub go_on_with : Yard → OneKept → Placement → Option Cleared
go_on_with Y one p = go_on Y one.lead.couple.leader.0 one.lead.couple.follower.0 one.lead.junction.0 one.behind.0 one.kept.0 p

-- ## What is asked, what is said

-- an attempt, logged from the log's start
pub record AttemptSays (way : Way) (one : OneKept) (x : Bay) (table p standing log' : List ℕ) (r : Tried) : Type 0 where
  pub few : Within nothing attempt_most r
  pub attempts : (t : Tabled (length standing) table)
      → Arrived one.lead one.behind.0 p
      → Attempts (way_with (is_second way) t.yard one x p) log' r

-- attempts with each of the others
pub record OthersAsk (others : List ℕ) (one : OneKept) (p standing : List ℕ) : Type 0 where
  pub around : KeptAsks one p standing
  pub others_size : length others ≡ words
  pub among : Among (length standing) others

-- the first of the others whose attempt succeeds
pub record FirstKeptSays (way : Way) (others : List ℕ) (one : OneKept) (table p standing log' : List ℕ) (r : Kept) : Type 0 where
  pub few : KeptWithin attempt_most r
  pub keeps : (t : Tabled (length standing) table)
      → Arrived one.lead one.behind.0 p
      → FirstKept (first_kept t.yard (way_with (is_second way) t.yard one) one.kept.0 (from (mem others) 0 (length standing)) p) one.kept.0 log' r

-- where the others are the junction's neighbours except the bay behind and the kept one: one way or the other
pub record EitherSays (others : List ℕ) (one : OneKept) (table p standing log' : List ℕ) (r : Kept) : Type 0 where
  pub few : KeptWithin attempt_most r
  pub keeps : (t : Tabled (length standing) table)
      → Arrived one.lead one.behind.0 p
      → Others t.yard one.lead.junction.0 one.behind.0 one.kept.0 (length standing) others
      → FirstKept (go_on_with t.yard one p) one.kept.0 log' r
