-- What the outlook says of the table and the set of empty bays holds in the yard: so the trial fails.
-- Assumes nothing.
use mathlib.Core.Path.{◌≡◌, sym}
use mathlib.Core.List.{List, []}
use mathlib.Core.Option.{none}
use Prim.Native.Nat.{ℕ, ◌<◌}
use lib.ListN.{length}
use borrow.Author.Tests.{ne_eqb}
use Rattle.paper.specs.Path.{Free}
use Rattle.paper.specs.Procedure.{trial}
use Rattle.paper.specs.Yard.{Bay, Carrier, bay_of}
use Rattle.paper.proofs.Members.{nothing-in-nil}
use Rattle.paper.proofs.Shortest.{shortest-path}
use Rattle.blocked.proofs.Blocking.{blocked-fails}
use Rattle.outlook.specs.Outlook.{OutlookAsks, OutlookSays}
use Rattle.moving.specs.Placed.{Placed}
use Rattle.acting.specs.Acting.{Tabled, Ready}
use Rattle.trial.specs.Trying.{Near}
use Rattle.trial.proofs.FromBelow.{in-bays}

pub outlook-asks : {table p standing empty : List ℕ} (k : Ready table p standing empty) (r s : Carrier) (v : Bay) → r < length p → s < length p → v < length standing
    → OutlookAsks (length standing) v (bay_of p r) (bay_of p s) table empty
outlook-asks k r s v hr hs hv = record {
  most = k.most;
  table_size = k.table_size;
  empty_size = k.empty_size;
  junction_inside = hv;
  first_inside = k.placed.inside r hr;
  second_inside = k.placed.inside s hs;
  charted = record { yard = k.tabled.yard; joins = k.tabled.joins };
}

pub blocked-none : {n : ℕ} {table : List ℕ} (t : Tabled n table) {p standing empty : List ℕ} → Placed n p standing empty → (r s : Carrier) (v : Bay)
    → r < length p → s < length p → (s ≡ r → ⊥) → v < n → Near t.yard r s v p
    → OutlookSays n v (bay_of p r) (bay_of p s) table empty → trial t.yard r s v p ≡ none
blocked-none t {p} k r s v hr hs differ hv near says =
    let Y = t.yard in
    let u = bay_of p r in
    let here : Free Y [] u = (in-bays t (k.inside r hr), nothing-in-nil u) in
    let there : Free Y [] v = (in-bays t hv, nothing-in-nil v) in
    blocked-fails Y near.sound r s (ne_eqb r s (λ q. differ (sym q))) p k.apart hr hs near.beside v
    (shortest-path Y [] u v here there near.reached).way (says Y t.joins p k.empties)
