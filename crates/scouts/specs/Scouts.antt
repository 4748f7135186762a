-- The scouts of a swap: where each of them has come to, and which bays none can enter.
-- Assumes nothing.
use Rattle.std.specs.Prelude.{◌≡◌, Bool, true, false, List, [], ◌++◌, ◌⊎◌, ℕ, suc, ◌+◌, ◌≤◌, ◌<◌, eqb, ltb, length, get_or, take, drop, if◌then◌else◌}
use Rattle.std.proofs.Math.Option.{Option, none, some}
use Rattle.paper.specs.Basics.{◌and◌, In}
use Rattle.paper.specs.Path.{Free, nearest_first, shortest_path}
use Rattle.paper.specs.Procedure.{Made, bring, trial_led}
use Rattle.paper.specs.Yard.{Bay, Carrier, Yard, Placement, bay_of, after}
use Rattle.words.specs.Sets.{mem, words, span}
use Rattle.docket.specs.declared.Bay.{Bay as Numbered}
use Rattle.moving.specs.Placed.{Placed}
use Rattle.acting.specs.Acting.{Tabled}
use Rattle.scout.specs.Scouting.{Sized, SetOutSays, placement_in, standing_in, scout_room}
use Rattle.attempts.specs.declared.Lead.{Lead}
use Rattle.scout.specs.declared.Scout.{Scout}
use Rattle.scout.specs.declared.Sight.{Sight}
use Rattle.trial.specs.Trying.{Beside, SideBySide, Leads, Nears, tries, LedAsks, TrialOnAsks}
use Rattle.trial.specs.declared.Trial.{Trial}
use Rattle.scouts.specs.declared.Outlook.{Outlook}
use Rattle.scouts.specs.declared.Scouts.{Scouts}

-- ## In the paper's terms

-- s leads, since its bay is the path's second
abbrev pub second_leads : Carrier → Placement → List Bay → Bool
second_leads s p path = ltb 1 (length path) and eqb (get_or path 1 0) (bay_of p s)

-- the pair brought along the path
unfoldable pub brought_along : Yard → Carrier → Carrier → List Bay → Placement → Option Made
brought_along Y r s path p = if second_leads s p path then bring Y s r (drop 2 path) p else bring Y r s (drop 1 path) p

-- no path that passes b can be gone
abbrev pub Stuck : Yard → Carrier → Carrier → Placement → Bay → Type 0
Stuck Y r s p b = (rest : List Bay) → brought_along Y r s (shortest_path Y [] (bay_of p r) b ++ rest) p ≡ none

-- ## Where scouts are

-- the scout, with its room, stands where a pair is that has gone the shortest path from u, past the bays in which it stood at first
pub record Came (Y : Yard) (L M : Carrier) (past : ℕ) (u : Bay) (p : Placement) (n : ℕ) (scout : Scout) (room : List ℕ) : Type 0 where
  pub sized : Sized scout room
  pub brought : Made
  pub made : bring Y L M (drop past (shortest_path Y [] u scout.at.0)) p ≡ some brought
  pub stands : placement_in (length p) room ≡ after p brought.moves
  pub placed : Placed n (placement_in (length p) room) (standing_in n room) scout.empty
  pub far : length (shortest_path Y [] u scout.at.0) ≡ suc scout.rails
  pub begun : past ≤ suc scout.rails

-- the numbers in the rooms of both, ours and then theirs
abbrev pub scouts_room : ℕ
scouts_room = scout_room + scout_room

-- each scout that has set out is where it says, and the bays are such that none can enter
pub record Scouting (Y : Yard) (r s : Carrier) (p : Placement) (n : ℕ) (scouts : Scouts) (room : List ℕ) : Type 0 where
  pub ours : scouts.ours.rails < span → Came Y r s 1 (bay_of p r) p n scouts.ours (take scout_room room)
  pub theirs : scouts.theirs.rails < span → Came Y s r 2 (bay_of p r) p n scouts.theirs (drop scout_room room)
  pub stuck : (b : ℕ) → b < span → mem scouts.stuck b ≡ true → Stuck Y r s p b

-- so it is in every yard that the table shows
pub record Scouted (r s : Carrier) (table p : List ℕ) (n : ℕ) (scouts : Scouts) (room : List ℕ) : Type 0 where
  pub stuck_size : length scouts.stuck ≡ words
  pub scouting : (t : Tabled n table) → Beside t.yard r s p → Scouting t.yard r s p n scouts room

-- The scout is sent along the path from u to v, which is the shortest; it leads past so many rails at first.
pub record Sending (Y : Yard) (path : List Bay) (lead : Lead) (rails : ℕ) (p : Placement) (n : ℕ) (start : Bay) (scout : Scout) (room : List ℕ) : Type 0 where
  pub is_path : path ≡ shortest_path Y [] start lead.junction.0
  pub start_free : Free Y [] start
  pub reached : In start (nearest_first Y [] lead.junction.0)
  pub led : Leads Y lead (drop (suc rails) path) p
  pub came : scout.rails < span → Came Y lead.couple.leader.0 lead.couple.follower.0 (suc rails) start p n scout room

-- It came to the junction, or to a bay that it cannot enter. Where it does not fit, the trial fails.
pub record Sent (Y : Yard) (path : List Bay) (lead : Lead) (rails : ℕ) (p : Placement) (n : ℕ) (start : Bay) (z : Sight) (room : List ℕ) : Type 0 where
  pub came : Came Y lead.couple.leader.0 lead.couple.follower.0 (suc rails) start p n z.scout room
  pub stops : z.entered < length path → (suc rails ≤ z.entered) × ((rest : List Bay)
      → bring Y lead.couple.leader.0 lead.couple.follower.0 (drop (suc rails) (shortest_path Y [] start (get_or path z.entered 0) ++ rest)) p ≡ none)
  pub unfit : z.fits ≡ false → trial_led Y lead.couple.leader.0 lead.couple.follower.0 lead.junction.0 (drop (suc rails) path) p ≡ none

-- nobody has set out, and no bay is known that cannot be entered
pub record NoneYet (r : Scouts) : Type 0 where
  pub ours : r.ours.rails ≡ span
  pub theirs : r.theirs.rails ≡ span
  pub stuck_size : length r.stuck ≡ words
  pub none_stuck : (b : ℕ) → mem r.stuck b ≡ false

-- ## What is asked, what is said

pub record PassesAsks (path bays : List ℕ) : Type 0 where
  pub size : length bays ≡ words
  pub low : (k : ℕ) → k < length path → get_or path k 0 < span

pub record PassesSays (path bays : List ℕ) : Type 0 where
  pub place : ℕ
  pub there : place < length path
  pub passed : mem bays (get_or path place 0) ≡ true

-- the bay `from` is on the path, so many rails from its start
pub record PathAsks (path p standing empty : List ℕ) (from : Numbered) (rails : ℕ) (room : List ℕ) : Type 0 where
  pub carriers_fit : length p ≤ span
  pub bays_fit : length standing ≤ span
  pub empty_size : length empty ≡ words
  pub room_size : length room ≡ scout_room
  pub there : rails < length path
  pub starts : get_or path rails 0 ≡ from.0

-- the scout is on the path: the old one, or one that has just set out
pub record PathSays (path p standing empty : List ℕ) (from : Numbered) (rails : ℕ) (scout : Scout) (room : List ℕ) (r : Scout) (room' : List ℕ) : Type 0 where
  pub there : r.rails < length path
  pub stands : get_or path r.rails 0 ≡ r.at.0
  pub which : ((r ≡ scout) × (room' ≡ room)) ⊎ SetOutSays p standing empty from rails r room'

-- the bay at that place is in the set now
pub record NotedSays (path bays : List ℕ) (place : ℕ) (r : List ℕ) : Type 0 where
  pub size : length r ≡ words
  pub only : (b : ℕ) → mem r b ≡ true → (mem bays b ≡ true) ⊎ ((place < length path) × (b ≡ get_or path place 0))

-- two carriers, one of which leads the other along the shortest path from u past its first bays
pub record SendAsks (path : List Bay) (lead : Lead) (rails : ℕ) (table p standing : List ℕ) (scout : Scout) (room : List ℕ) : Type 0 where
  pub asks : LedAsks lead path p standing
  pub room_size : length room ≡ scout_room
  pub there : rails < length path
  pub some_yard : (t : Tabled (length standing) table) × (start : Bay) × Sending t.yard path lead rails p (length standing) start scout room

-- the path is the shortest, and the scout has come along one of the kind
pub record SendSays (path : List Bay) (lead : Lead) (rails : ℕ) (table p standing : List ℕ) (scout : Scout) (room : List ℕ) (z : Sight) (room' : List ℕ) : Type 0 where
  pub most : z.entered ≤ length path
  pub sends : (t : Tabled (length standing) table) → (start : Bay) → Sending t.yard path lead rails p (length standing) start scout room
      → Sent t.yard path lead rails p (length standing) start z room'

-- the path to the junction is known
pub record ForeseeAsks (path : List Bay) (x : Trial) (table p standing : List ℕ) (scouts : Scouts) (room : List ℕ) : Type 0 where
  pub on_path : TrialOnAsks x path p standing
  pub side : SideBySide (length standing) table x.carrier.0 x.neighbour.0 p
  pub near : (t : Tabled (length standing) table) → Beside t.yard x.carrier.0 x.neighbour.0 p → Nears t.yard x p
  pub is_path : (t : Tabled (length standing) table) → Beside t.yard x.carrier.0 x.neighbour.0 p
      → path ≡ shortest_path t.yard [] (bay_of p x.carrier.0) x.junction.0
  pub scouted : Scouted x.carrier.0 x.neighbour.0 table p (length standing) scouts room
  pub room_size : length room ≡ scouts_room

-- where it is hopeless, the trial fails
pub record ForeseeSays (x : Trial) (table p standing : List ℕ) (z : Outlook) (room : List ℕ) : Type 0 where
  pub scouted : Scouted x.carrier.0 x.neighbour.0 table p (length standing) z.scouts room
  pub fails : z.hopeless ≡ true → (t : Tabled (length standing) table) → Beside t.yard x.carrier.0 x.neighbour.0 p
      → tries t.yard x p ≡ none
