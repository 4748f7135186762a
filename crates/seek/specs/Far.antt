-- The far junctions of a swap in code: which are looked at, and what is said of the first that fits.
-- Assumes nothing.
use Rattle.std.specs.Prelude.{◌≡◌, Bool, true, List, ℕ, ◌≤◌, ◌<◌, length}
use Rattle.paper.specs.Yard.{Carrier, junction}
use Rattle.words.specs.Sets.{span, Lowest}
use Rattle.moving.specs.Bounds.{swap_most}
use Rattle.acting.specs.Acting.{Tabled, nothing, Within}
use Rattle.trial.specs.Trying.{Beside}
use Rattle.trial.specs.declared.Trial.{Trial}
use Rattle.scouts.specs.Scouts.{Scouted}
use Rattle.near.specs.Seeking.{TriedAt, SeekAsks, NoneNear}
use Rattle.seek.specs.declared.Turn.{Turn}

-- the trial at the junction, or that it fails
pub record TrySays (x : Trial) (table p standing room log : List ℕ) (z : Turn) : Type 0 where
  pub scouted : Scouted x.carrier.0 x.neighbour.0 table p (length standing) z.scouts room
  pub few : Within nothing swap_most z.tried
  pub tried : (t : Tabled (length standing) table) → Beside t.yard x.carrier.0 x.neighbour.0 p
      → junction t.yard x.junction.0 ≡ true
      → TriedAt t.yard x.carrier.0 x.neighbour.0 x.junction.0 p log z.tried

-- in ring d the lowest bay that passes the test, and none where the ring is one of the first k
pub record FirstFar (q : ℕ → Bool) (k d r : ℕ) : Type 0 where
  pub upto : r ≤ span
  pub hit : r < span → q r ≡ true
  pub none_near : d < k → r ≡ span
  pub lowest : k ≤ d → Lowest q 0 span r

-- r and its neighbour s, for whom no junction of the first k rings fits
pub record FarAsks (r s : Carrier) (table p standing : List ℕ) (k : ℕ) : Type 0 where
  pub asks : SeekAsks r s table p standing
  pub missed : (t : Tabled (length standing) table) → Beside t.yard r s p → NoneNear t.yard r s p k
