-- What the way home asks at one bay, and how the answer of a stage reads as the paper's outcome.
-- Assumes nothing.
use Rattle.std.specs.Prelude.{◌≡◌, true, List, ℕ, ◌≤◌, ◌<◌, length, get_or, Err, Ok}
use Rattle.paper.specs.Procedure.{Made, Outcome, planned, stuck, home_at}
use Rattle.paper.specs.Yard.{Bay, Yard, Placement, bay_of, carrier_at}
use Rattle.words.specs.Sets.{mem_row}
use Rattle.moving.specs.Bounds.{swap_most}
use Rattle.acting.specs.Acting.{Tabled, nothing, Tallied}
use Rattle.acting.specs.declared.Tally.{Tally}
use Rattle.go.specs.FromBelow.{Loopless, BaysBelow}
use Rattle.home.specs.declared.HomeBay.{HomeBay}
use Rattle.home.specs.Staged.{Staged}
use Rattle.docket.specs.declared.Carrier.{Carrier as Named}

-- whose goal each of the n bays is; at a bay that is nobody's stands the carrier `length goals`, which there is not
pub record Owners (n : ℕ) (goals owner : List ℕ) : Type 0 where
  pub many : n ≤ length owner
  pub whose : (b : ℕ) → b < n → get_or owner b 0 ≡ carrier_at goals b

-- at most k crossings were made
pub record AtMost (k : ℕ) (z : Staged) : Type 0 where
  pub few : (m : Tally) → z ≡ Ok m → m.crossings ≤ k

-- as the paper's stage: what it makes was played, or the carrier that it names could not step
pub record Stages (o : Outcome) (n : ℕ) (p out : List ℕ) (at : Tally) (p' standing' empty' out' : List ℕ) (z : Staged) : Type 0 where
  pub plans : (m : Tally) → z ≡ Ok m → (made : Made) × (o ≡ planned made) × Tallied made n p p' standing' empty' out at out' m
  pub stops : (c : Named) → z ≡ Err c → o ≡ stuck c.0

-- stages what the paper's stage comes to, in the yard that the table shows
abbrev pub StagesAs : (Yard → Placement → Outcome) → (table p standing out : List ℕ) → Tally → (p' standing' empty' out' : List ℕ) → Staged → Type 0
StagesAs stage table p standing out at p' standing' empty' out' z =
    (t : Tabled (length standing) table) → Stages (stage t.yard p) (length standing) p out at p' standing' empty' out' z

-- carrier c, if it is finished, is at v or beside it
pub record Due (table : List ℕ) (c finished : ℕ) (v : Bay) (p : Placement) : Type 0 where
  pub beside : c < finished → (bay_of p c ≡ v → ⊥) → mem_row table (bay_of p c) v ≡ true

-- ## What is asked, what is said

-- a finished carrier whose goal is the bay is due, and the set has the finished carriers' bays
pub record HomeAsks (home : HomeBay) (owner table p standing settled : List ℕ) : Type 0 where
  pub finished_there : home.finished ≤ length p
  pub bay_there : home.bay.0 < length standing
  pub owner_size : length standing ≤ length owner
  pub loopless : Loopless (length standing) table
  pub due : Due table (get_or owner home.bay.0 0) home.finished home.bay.0 p
  pub below : BaysBelow home.finished p settled

-- the paper's stage at the bay, for all goals whose owners these are, and the set has the finished carriers' bays after it
pub record HomeSays (home : HomeBay) (owner table p standing out p' standing' empty' settled' out' : List ℕ) (z : Staged) : Type 0 where
  pub at_most : AtMost swap_most z
  pub stages : (t : Tabled (length standing) table) (goals : Placement) → home.finished ≤ length goals → Owners (length standing) goals owner
      → Stages (home_at t.yard goals home.finished home.bay.0 p) (length standing) p out nothing p' standing' empty' out' z
  pub below : BaysBelow home.finished p' settled'
