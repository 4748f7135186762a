-- The junction of a swap in code: which junctions fit, and what is said of the first that does, near or far.
-- Assumes nothing.
use Rattle.std.specs.Prelude.{◌≡◌, Bool, true, false, List, [], ℕ, ◌<◌, length, get_or, None, Some}
use Rattle.std.proofs.Math.Option.{none, some}
use Rattle.paper.specs.Basics.{◌and◌, In}
use Rattle.paper.specs.Path.{rings}
use Rattle.paper.specs.Procedure.{Made, trial, swap}
use Rattle.paper.specs.Yard.{Bay, Carrier, Yard, Placement, bay_of, junction}
use Rattle.docket.specs.Reading.{is_some}
use Rattle.moving.specs.Bounds.{swap_most}
use Rattle.acting.specs.Acting.{Tabled, nothing, Within}
use Rattle.acting.specs.declared.Tally.{Tally}
use Rattle.acting.specs.Tried.{Tried}
use Rattle.trial.specs.FromBelow.{Logged, Attempts}
use Rattle.trial.specs.Trying.{Beside, SideBySide, Nears, tries}
use Rattle.trial.specs.declared.Trial.{Trial}
use Rattle.near.specs.declared.Nearby.{Nearby}
use Rattle.near.specs.declared.Nearby.TheVariants.{Found, Farther, Nowhere}

-- v is a junction whose trial succeeds
unfoldable pub fitting : Yard → Carrier → Carrier → Placement → Bay → Bool
fitting Y r s p v = junction Y v and is_some (trial Y r s v p)

-- the trial at v was logged, and v fits; or it does not fit
pub record TriedAt (Y : Yard) (r s : Carrier) (v : Bay) (p : Placement) (log : List ℕ) (z : Tried) : Type 0 where
  pub fails : z ≡ None → fitting Y r s p v ≡ false
  pub fits : (m : Tally) → z ≡ Some m → fitting Y r s p v ≡ true
  pub logged : (m : Tally) → z ≡ Some m → (made : Made) × (trial Y r s v p ≡ some made) × Logged made log m

-- r and its neighbour s
pub record SeekAsks (r s : Carrier) (table p standing : List ℕ) : Type 0 where
  pub first : r < length p
  pub second : s < length p
  pub differ : s ≡ r → ⊥
  pub side : SideBySide (length standing) table r s p

-- the trial that is the paper's swap
pub record SeekSays (r s : Carrier) (table p standing log : List ℕ) (z : Tried) : Type 0 where
  pub few : Within nothing swap_most z
  pub swaps : (t : Tabled (length standing) table) → Beside t.yard r s p → Attempts (swap t.yard r s p) log z

-- ## Near and far

-- no bay of the first k rings fits, the carrier's own bay being the first
abbrev pub NoneNear : Yard → Carrier → Carrier → Placement → (k : ℕ) → Type 0
NoneNear Y r s p k = (i b : ℕ) → i < k → In b (get_or (rings Y [] (bay_of p r)) i []) → fitting Y r s p b ≡ false

-- the trial does not succeed
abbrev pub SurelyFails : Trial → (table p standing : List ℕ) → Type 0
SurelyFails x table p standing = (t : Tabled (length standing) table) → Nears t.yard x p → tries t.yard x p ≡ none

-- the trial, if its bay is a junction
pub record TryJunctionSays (x : Trial) (table p standing log : List ℕ) (z : Tried) : Type 0 where
  pub few : Within nothing swap_most z
  pub tried : (t : Tabled (length standing) table) → Nears t.yard x p
      → TriedAt t.yard x.carrier.0 x.neighbour.0 x.junction.0 p log z

-- r and its neighbour s
pub record NearAsks (r s : Carrier) (p : List ℕ) : Type 0 where
  pub first : r < length p
  pub second : s < length p
  pub differ : s ≡ r → ⊥

-- the trial that is the paper's swap; that none in so many rings succeeds; or that there is no swap
pub record NearSays (r s : Carrier) (table p standing log : List ℕ) (z : Nearby) : Type 0 where
  pub few : (m : Tally) → z ≡ Found m → Within nothing swap_most (Some m)
  pub found : (m : Tally) → z ≡ Found m → (t : Tabled (length standing) table) → Beside t.yard r s p → Attempts (swap t.yard r s p) log (Some m)
  pub farther : (k : ℕ) → z ≡ Farther k → (t : Tabled (length standing) table) → Beside t.yard r s p → NoneNear t.yard r s p k
  pub nowhere : z ≡ Nowhere → (t : Tabled (length standing) table) → Beside t.yard r s p → Attempts (swap t.yard r s p) log None
