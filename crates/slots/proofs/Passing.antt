-- Why one pass gives the slots: after each turn the slots met, and then what a pass over the rest would give, are the slots of the plan;
-- and a slot is never above the number of crossings passed, so it fits.
use mathlib.Core.Path.{◌≡◌, refl, ◌∙◌, ap}
use mathlib.Core.List.{List, [], ◌∷◌}
use Prim.Native.Nat.{ℕ, suc, ◌≤◌, ◌<◌, ◌+◌}
use native.Mathlib.Omega.{arith}
use native.Mathlib.Numerals.{add-one}
use lib.ListN.{length, get_or, drop, set, replicate, length-set, length-replicate}
use Rattle.paper.specs.Limits.{most_bays}
use Rattle.paper.specs.Yard.{Crossing, crossings, named, most_crossings}
use Rattle.paper.specs.Dependence.{slots}
use Rattle.paper.specs.OnePass.{Fits, slots_pass}
use Rattle.paper.proofs.Slotting.{at, slots-step, slots-start}
use Rattle.lists.proofs.Lists.{low_zeros, low-set}
use Rattle.plans.proofs.Rest.{rest-next, rest-none, fits-named}
use Rattle.slots.specs.Turn.{slot_after, Turned}

-- The tables once `i` crossings are passed: they have an entry for each number below 256, and none is above i.
pub record Tables (plan carriers bays : List ℕ) (i : ℕ) : Type 0 where
  pub within : i ≤ length plan
  pub all-carriers : length carriers ≡ most_bays
  pub all-bays : length bays ≡ most_bays
  pub low-carriers : (j : ℕ) → get_or carriers j 0 ≤ i
  pub low-bays : (j : ℕ) → get_or bays j 0 ≤ i

-- the slots of the crossings that are still to be passed
abbrev pub still : List ℕ → List ℕ → List ℕ → ℕ → List ℕ
still plan carriers bays i = slots_pass (at carriers) (at bays) (drop i (crossings plan))

pub tables_start : (plan : List ℕ) → Tables plan (replicate most_bays 0) (replicate most_bays 0) 0
tables_start plan = record {
  within = omega arith;
  all-carriers = length-replicate {A = ℕ} most_bays 0;
  all-bays = length-replicate {A = ℕ} most_bays 0;
  low-carriers = low_zeros most_bays;
  low-bays = low_zeros most_bays;
}

pub still-start : (plan : List ℕ) → slots (crossings plan) ≡ still plan (replicate most_bays 0) (replicate most_bays 0) 0
still-start plan = slots-start most_bays most_bays (crossings plan)

-- The turn of the crossing x at the name i.
module _ {plan carriers bays : List ℕ} {i : ℕ} (t : Tables plan carriers bays i) (more : i < length plan) (fits : Fits most_bays most_bays plan)
    {x : Crossing} (is : x ≡ named (crossings plan) i) where
  small : (x.carrier < most_bays) × (x.from < most_bays) × (x.to < most_bays)
  small = fits-named most_bays most_bays plan fits i more x is

  low : slot_after carriers bays x ≤ i + 1
  unfolding slot_after
  low = omega (arith, t.low-carriers x.carrier, t.low-bays x.from, t.low-bays x.to)

  -- what a turn asks
  pub turn-asks : length plan ≤ most_crossings → (x.carrier < most_bays) × (x.from < most_bays) × (x.to < most_bays) × (slot_after carriers bays x < 4294967296)
  turn-asks few = (small.0, small.1, small.2, omega (arith, low))

  module _ {s : ℕ} {carriers' bays' : List ℕ} (turned : Turned carriers bays x s carriers' bays') where
    pub tables-on : Tables plan carriers' bays' (i + 1)
    tables-on =
        let s = slot_after carriers bays x in
        let from-put = low-set bays x.from s i (i + 1) t.low-bays (omega arith) low in
        rw (turned.of_carriers, turned.of_bays)
        (record {
          within = omega arith;
          all-carriers = length-set carriers x.carrier s ∙ t.all-carriers;
          all-bays = length-set (set bays x.from s) x.to s ∙ length-set bays x.from s ∙ t.all-bays;
          low-carriers = low-set carriers x.carrier s i (i + 1) t.low-carriers (omega arith) low;
          low-bays = low-set (set bays x.from s) x.to s (i + 1) (i + 1) from-put (omega arith) low;
        })

    pub still-on : still plan carriers bays i ≡ s ∷ still plan carriers' bays' (i + 1)
    unfolding slot_after
    still-on =
        let next = rw (← is) at (rest-next plan i more) in
        rw (turned.of_carriers, turned.of_bays, turned.slot)
        (ap (slots_pass (at carriers) (at bays)) next
        ∙ rw add-one (slots-step carriers bays x (drop (suc i) (crossings plan))
        (rw t.all-carriers small.0) (rw t.all-bays small.1) (rw t.all-bays small.2) _ refl))

pub still-end : {plan carriers bays : List ℕ} {i : ℕ} → Tables plan carriers bays i → length plan ≤ i → still plan carriers bays i ≡ []
unfolding slots_pass
still-end {plan} {carriers} {bays} {i} t h = ap (slots_pass (at carriers) (at bays)) (rest-none plan i h)
