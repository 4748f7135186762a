-- What is left of a plan from a name on: the crossing of that name and then the rest, or nothing. A pass over a plan goes by this.
use mathlib.Core.Path.{◌≡◌}
use mathlib.Core.List.{List, [], ◌∷◌}
use Prim.Native.Nat.{ℕ, suc, ◌<◌, ◌≤◌}
use lib.ListN.{length, drop, length-map, drop_of_length-le}
use lib.Seq.{drop-cons}
use Rattle.paper.specs.Yard.{Crossing, crossing, crossings, named}
use Rattle.paper.specs.OnePass.{Fits}
use Rattle.paper.proofs.Packing.{named-is}

pub rest-next : (plan : List ℕ) (i : ℕ) → i < length plan
    → drop i (crossings plan) ≡ named (crossings plan) i ∷ drop (suc i) (crossings plan)
rest-next plan i more = drop-cons (crossings plan) i (crossing 0 0 0) (rw length-map more)

pub rest-none : (plan : List ℕ) (i : ℕ) → length plan ≤ i → drop i (crossings plan) ≡ []
rest-none plan i h = drop_of_length-le (crossings plan) {i = i} (rw length-map h)

-- where the numbers of a plan fit, so does the crossing of each name
pub fits-named : (k n : ℕ) (plan : List ℕ) → Fits k n plan → (i : ℕ) → i < length plan → (x : Crossing) → x ≡ named (crossings plan) i
    → (x.carrier < k) × (x.from < n) × (x.to < n)
fits-named k n plan fits i more x is = rw (is, named-is plan i) (fits i more)
