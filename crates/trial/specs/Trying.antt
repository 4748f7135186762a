-- A trial in code: what is written of it, and what it is lent.
-- Assumes nothing.
use Rattle.std.specs.Prelude.{◌≡◌, true, List, [], ◌∷◌, ℕ, ◌≤◌, ◌<◌, length, get_or, None, Some}
use Rattle.std.proofs.Math.Option.{Option, none, some}
use Rattle.paper.specs.Basics.{In}
use Rattle.paper.specs.Path.{nearest_first, shortest_path}
use Rattle.paper.specs.Procedure.{Made, together, bring, clear_once, clear, trial_led, trial}
use Rattle.paper.specs.Yard.{Bay, Carrier, Yard, Placement, bay_of, after, joined}
use Rattle.paper.proofs.Playing.{Sound}
use Rattle.paper.proofs.Swapping.{Chain}
use Rattle.words.specs.Sets.{span}
use Rattle.moving.specs.Bounds.{set_up_most, swap_most}
use Rattle.acting.specs.Acting.{Tabled, nothing, Within}
use Rattle.bring.specs.Bringing.{Coupled}
use Rattle.clear_on.specs.Going.{Logged, Attempts, PairBy}
use Rattle.attempts.specs.declared.Lead.{Lead}
use Rattle.clear_on.specs.Pair.{Pair}
use Rattle.acting.specs.declared.Tally.{Tally}
use Rattle.acting.specs.Tried.{Tried}
use Rattle.docket.specs.declared.Bay.{Bay as Numbered}
use Rattle.trial.specs.declared.Trial.{Trial}

-- ## Bring and clear

-- both succeeded: the bays x and y are kept, all crossings were logged, and the placement is that at which clearing once ended
pub record Prepared (Y : Yard) (L M : Carrier) (v : Bay) (path : List Bay) (p p' log : List ℕ) (x y : ℕ) (m : Tally) : Type 0 where
  pub brought : Made
  pub made : bring Y L M path p ≡ some brought
  pub kept : (clear Y L M v (bay_of (after p brought.moves) M) (after p brought.moves)).kept ≡ x ∷ y ∷ []
  pub logged : Logged (together brought (clear Y L M v (bay_of (after p brought.moves) M) (after p brought.moves)).made) log m
  pub moved : p' ≡ after (after p brought.moves) (clear_once Y v (bay_of (after p brought.moves) M) (after p brought.moves)).made.moves

pub record SetsUp (Y : Yard) (L M : Carrier) (v : Bay) (path : List Bay) (p p' log : List ℕ) (r : Pair) : Type 0 where
  pub both : (x y : Numbered) (m : Tally) → r ≡ Some (x, y, m) → Prepared Y L M v path p p' log x.0 y.0 m
  pub missing : r ≡ None → trial_led Y L M v path p ≡ none

-- ## The whole trial: logged as an attempt is

-- the path leads the leader to v, and the follower is beside it
pub record Led (Y : Yard) (L M : Carrier) (v : Bay) (path : List Bay) (p : Placement) : Type 0 where
  pub sound : Sound Y
  pub chain : Chain Y (bay_of p L) path v
  pub beside : joined Y (bay_of p M) (bay_of p L) ≡ true

-- r and s stand side by side in a sound yard
pub record Beside (Y : Yard) (r s : Carrier) (p : Placement) : Type 0 where
  pub sound : Sound Y
  pub beside : joined Y (bay_of p r) (bay_of p s) ≡ true

-- they do so in a yard that the table shows
pub record SideBySide (n : ℕ) (table : List ℕ) (r s : Carrier) (p : Placement) : Type 0 where
  pub tabled : Tabled n table
  pub beside : Beside tabled.yard r s p

-- v is reached from r's bay, and s is beside it
pub record Near (Y : Yard) (r s : Carrier) (v : Bay) (p : Placement) : Type 0 where
  pub sound : Sound Y
  pub reached : In (bay_of p r) (nearest_first Y [] v)
  pub beside : joined Y (bay_of p r) (bay_of p s) ≡ true

-- ## In the code's words

-- the path leads the leader to the junction
abbrev pub Leads : Yard → Lead → (path : List Bay) → Placement → Type 0
Leads Y lead path p = Led Y lead.couple.leader.0 lead.couple.follower.0 lead.junction.0 path p

-- the neighbour leads, and the carrier does
abbrev pub neighbour_leads : Trial → Lead
neighbour_leads x = record { couple = record { leader = x.neighbour; follower = x.carrier }; junction = x.junction }

abbrev pub carrier_leads : Trial → Lead
carrier_leads x = record { couple = record { leader = x.carrier; follower = x.neighbour }; junction = x.junction }

-- the junction is reached from the carrier's bay, and the neighbour is beside it
abbrev pub Nears : Yard → Trial → Placement → Type 0
Nears Y x p = Near Y x.carrier.0 x.neighbour.0 x.junction.0 p

-- the paper's trial
abbrev pub tries : Yard → Trial → Placement → Option Made
tries Y x p = trial Y x.carrier.0 x.neighbour.0 x.junction.0 p

-- ## What is asked, what is said

-- leader and follower are two, and the path's bays are in the yard
pub record LedAsks (lead : Lead) (path : List Bay) (p standing : List ℕ) : Type 0 where
  pub coupled : Coupled lead.couple p
  pub inside : lead.junction.0 < length standing
  pub bays_inside : (k : ℕ) → k < length path → get_or path k 0 < length standing
  pub short : length path ≤ span

-- bring and clear
pub record SetUpSays (lead : Lead) (path : List Bay) (table p standing p' log : List ℕ) (r : Pair) : Type 0 where
  pub few : PairBy nothing set_up_most r
  pub sets_up : (t : Tabled (length standing) table) → Leads t.yard lead path p
      → SetsUp t.yard lead.couple.leader.0 lead.couple.follower.0 lead.junction.0 path p p' log r

-- the whole trial, where leader and follower are known
pub record LedSays (lead : Lead) (path : List Bay) (table p standing log : List ℕ) (r : Tried) : Type 0 where
  pub few : Within nothing swap_most r
  pub attempts : (t : Tabled (length standing) table) → Leads t.yard lead path p
      → Attempts (trial_led t.yard lead.couple.leader.0 lead.couple.follower.0 lead.junction.0 path p) log r

-- carrier and neighbour are two
pub record TrialAsks (x : Trial) (p standing : List ℕ) : Type 0 where
  pub first : x.carrier.0 < length p
  pub second : x.neighbour.0 < length p
  pub differ : x.neighbour.0 ≡ x.carrier.0 → ⊥
  pub inside : x.junction.0 < length standing

-- the path from the carrier's bay to the junction is known
pub record TrialOnAsks (x : Trial) (path : List Bay) (p standing : List ℕ) : Type 0 where
  pub asks : TrialAsks x p standing
  pub bays_inside : (k : ℕ) → k < length path → get_or path k 0 < length standing
  pub short : length path ≤ span
  pub some_bays : 1 ≤ length path

pub record TrialOnSays (x : Trial) (path : List Bay) (table p standing log : List ℕ) (z : Tried) : Type 0 where
  pub few : Within nothing swap_most z
  pub attempts : (t : Tabled (length standing) table) → Nears t.yard x p
      → path ≡ shortest_path t.yard [] (bay_of p x.carrier.0) x.junction.0
      → Attempts (tries t.yard x p) log z

-- the paper's trial
pub record TrialSays (x : Trial) (table p standing log : List ℕ) (z : Tried) : Type 0 where
  pub few : Within nothing swap_most z
  pub attempts : (t : Tabled (length standing) table) → Nears t.yard x p → Attempts (tries t.yard x p) log z
