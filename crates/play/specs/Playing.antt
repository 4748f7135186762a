-- What playing the procedure asks of a yard and its placements, and what it answers.
-- Assumes nothing.
use Rattle.std.specs.Prelude.{◌≡◌, List, map, ℕ, ◌*◌, ◌≤◌, ◌<◌, length, Err, Ok}
use Rattle.paper.specs.Procedure.{Made, Outcome, planned, stuck}
use Rattle.paper.specs.Yard.{Placement, pack, bay_of}
use Rattle.paper.proofs.Playing.{Apart}
use Rattle.words.specs.Sets.{words, span}
use Rattle.levels.specs.Levels.{Levelled}
use Rattle.moving.specs.Placed.{Stored}
use Rattle.acting.specs.Acting.{Tabled, AsFar}
use Rattle.acting.specs.declared.Tally.{Tally}
use Rattle.carry_all.specs.FromBelow.{Loopless}
use Rattle.carry_all.specs.FromBelow.{Goals}
use Rattle.carry_all.specs.Serving.{procedures, Reaching}
use Rattle.docket.specs.declared.Carrier.{Carrier as Named}
use Rattle.carry_all.specs.FromBelow.{Staged}

-- the table is that of a yard of n bays in one piece, and starts and goals are placements in it, as refusals 1 to 6 leave them
pub record Admitted (n : ℕ) (table : List ℕ) (s g : Placement) : Type 0 where
  pub most : n ≤ span
  pub few : length s ≤ n
  pub apart : Apart s
  pub inside : (c : ℕ) → c < length s → bay_of s c < n
  pub goals : Goals n g s
  pub loopless : Loopless n table
  pub reaching : Reaching n table

-- the same of a table that may go on above its rails
pub record TableAsks (n : ℕ) (table : List ℕ) (s g : Placement) : Type 0 where
  pub admitted : Admitted n table s g
  pub table_size : n * words ≤ length table
  pub levelled : Levelled n table

-- and with room: a place for each carrier, and two for each bay
pub record PlayOnAsks (table : List ℕ) (s g : Placement) (placement standing owner : List ℕ) : Type 0 where
  pub asks : TableAsks (length standing) table s g
  pub placement_size : length placement ≡ length s
  pub owner_size : length owner ≡ length standing

-- what is said of the procedure's outcome, in any yard that has this table
abbrev pub OfProcedure : ℕ → List ℕ → Placement → Placement → (Outcome → Type 0) → Type 0
OfProcedure n table s g Says = (t : Tabled n table) → Says (procedures t.yard g s)

-- the crossings of the procedure were counted, and stored where there was room; or the carrier that it names could not step
pub record Plays (o : Outcome) (out out' : List ℕ) (z : Staged) : Type 0 where
  pub plans : (m : Tally) → z ≡ Ok m
      → (made : Made) × (o ≡ planned made) × Stored (map pack made.moves) out 0 out'
      × (m.crossings ≡ length made.moves) × AsFar m.parked made.parked × (m.parked ≤ m.crossings)
  pub stops : (c : Named) → z ≡ Err c → o ≡ stuck c.0

-- the same of the procedure from starts to goals
abbrev pub PlaysOut : ℕ → List ℕ → Placement → Placement → (out out' : List ℕ) → Staged → Type 0
PlaysOut n table s g out out' z = OfProcedure n table s g (λ o. Plays o out out' z)
