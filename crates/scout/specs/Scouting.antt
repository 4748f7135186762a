-- A scout in code: where it stands, how far it comes, and what it sees there.
-- Assumes nothing.
use Rattle.std.specs.Prelude.{◌≡◌, false, List, ℕ, suc, ◌+◌, ◌≤◌, ◌<◌, length, get_or, take, drop}
use Rattle.std.proofs.Math.Option.{none, some}
use Rattle.paper.specs.Yard.{Bay, Placement, Yard, bay_of, after}
use Rattle.paper.specs.Procedure.{Made, clear}
use Rattle.paper.proofs.Playing.{Sound}
use Rattle.words.specs.Sets.{mem, mem_row, words, span}
use Rattle.docket.specs.declared.Bay.{Bay as Numbered}
use Rattle.moving.specs.Placed.{Placed}
use Rattle.acting.specs.Acting.{Tabled, Ready}
use Rattle.attempts.specs.Asking.{Arrived}
use Rattle.attempts.specs.declared.Lead.{Lead}
use Rattle.bring.specs.Bringing.{brings}
use Rattle.bring.specs.declared.Couple.{Couple}
use Rattle.scout.specs.declared.Scout.{Scout}
use Rattle.scout.specs.declared.Sight.{Sight}

-- ## How far the pair comes

-- leader and follower are two, and the way's bays are in the yard
pub record AdvanceAsks (couple : Couple) (way p standing : List ℕ) : Type 0 where
  pub leads : couple.leader.0 < length p
  pub follows : couple.follower.0 < length p
  pub differ : couple.follower.0 ≡ couple.leader.0 → ⊥
  pub inside : (k : ℕ) → k < length way → get_or way k 0 < length standing

-- the pair was brought along the way
pub record Gone (Y : Yard) (couple : Couple) (n : ℕ) (way p p' standing' empty' : List ℕ) : Type 0 where
  pub brought : Made
  pub made : brings couple way Y p ≡ some brought
  pub moved : p' ≡ after p brought.moves
  pub placed : Placed n p' standing' empty'

-- it entered i bays of the way: all of them, or the next cannot be vacated
pub record AdvanceSays (couple : Couple) (way table p standing p' standing' empty' : List ℕ) (i : ℕ) : Type 0 where
  pub most : i ≤ length way
  pub stops : i < length way → (t : Tabled (length standing) table) → brings couple (take (suc i) way) t.yard p ≡ none
  pub gone : i ≡ length way → (t : Tabled (length standing) table) → Gone t.yard couple (length standing) way p p' standing' empty'

-- ## What it sees at the junction

pub record ClearsAsks (lead : Lead) (p standing : List ℕ) : Type 0 where
  pub leads : lead.couple.leader.0 < length p
  pub follows : lead.couple.follower.0 < length p
  pub differ : lead.couple.follower.0 ≡ lead.couple.leader.0 → ⊥
  pub inside : lead.junction.0 < length standing

-- clearing does not keep two bays
abbrev pub TooFew : Lead → (table p standing : List ℕ) → Type 0
TooFew lead table p standing =
    (t : Tabled (length standing) table)
    → Sound t.yard
    → Arrived lead (bay_of p lead.couple.follower.0) p
    → length (clear t.yard lead.couple.leader.0 lead.couple.follower.0 lead.junction.0 (bay_of p lead.couple.follower.0) p).kept < 2

-- ## Scouts

-- the numbers that a scout's room holds
abbrev pub scout_room : ℕ
scout_room = span + span

-- the carriers' bays that the scout's room has, and who stands at each of the n
abbrev pub placement_in : ℕ → List ℕ → List ℕ
placement_in k room = take k room

abbrev pub standing_in : ℕ → List ℕ → List ℕ
standing_in n room = take n (drop span room)

-- its room and its set are as long as the code has them
pub record Sized (scout : Scout) (room : List ℕ) : Type 0 where
  pub room_size : length room ≡ scout_room
  pub empty_size : length scout.empty ≡ words

pub record ShowAsks (p standing room : List ℕ) : Type 0 where
  pub carriers_fit : length p ≤ span
  pub bays_fit : length standing ≤ span
  pub room_size : length room ≡ scout_room

-- the room shows where the carriers stand
pub record ShowSays (p standing room : List ℕ) : Type 0 where
  pub same_placement : placement_in (length p) room ≡ p
  pub same_standing : standing_in (length standing) room ≡ standing

pub record SetOutAsks (p standing empty room : List ℕ) : Type 0 where
  pub carriers_fit : length p ≤ span
  pub bays_fit : length standing ≤ span
  pub empty_size : length empty ≡ words
  pub room_size : length room ≡ scout_room

-- the scout stands as the carriers do
pub record SetOutSays (p standing empty : List ℕ) (at : Numbered) (rails : ℕ) (r : Scout) (room : List ℕ) : Type 0 where
  pub sized : Sized r room
  pub same_placement : placement_in (length p) room ≡ p
  pub same_standing : standing_in (length standing) room ≡ standing
  pub same_empty : (b : ℕ) → b < span → mem_row r.empty 0 b ≡ mem empty b
  pub there : r.at ≡ at
  pub far : r.rails ≡ rails

-- what a scout is asked to look at
pub record LookAsks (table way : List ℕ) (lead : Lead) (k n : ℕ) (scout : Scout) (room : List ℕ) : Type 0 where
  pub carriers_fit : k ≤ span
  pub bays_fit : n ≤ span
  pub sized : Sized scout room
  pub ready : Ready table (placement_in k room) (standing_in n room) scout.empty
  pub leads : lead.couple.leader.0 < k
  pub follows : lead.couple.follower.0 < k
  pub differ : lead.couple.follower.0 ≡ lead.couple.leader.0 → ⊥
  pub junction_inside : lead.junction.0 < n
  pub inside : (j : ℕ) → j < length way → get_or way j 0 < n
  pub short : scout.rails + length way ≤ span

-- it turned back, or it stands at the junction now; where it does not fit, two bays cannot be kept there
pub record LookSays (table way : List ℕ) (lead : Lead) (k n : ℕ) (scout : Scout) (room : List ℕ) (r : Sight) (room' : List ℕ) : Type 0 where
  pub sized : Sized r.scout room'
  pub most : r.entered ≤ length way
  pub stops : r.entered < length way → (t : Tabled n table) → brings lead.couple (take (suc r.entered) way) t.yard (placement_in k room) ≡ none
  pub stays : r.entered < length way → (r.scout ≡ scout) × (room' ≡ room)
  pub gone : r.entered ≡ length way → (t : Tabled n table)
      → Gone t.yard lead.couple n way (placement_in k room) (placement_in k room') (standing_in n room') r.scout.empty
  pub there : r.entered ≡ length way → r.scout.at ≡ lead.junction
  pub far : r.entered ≡ length way → r.scout.rails ≡ scout.rails + length way
  pub unfit : r.entered ≡ length way → r.fits ≡ false → TooFew lead table (placement_in k room') (standing_in n room')
