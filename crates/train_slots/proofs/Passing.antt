-- Why one pass gives the train slots: after each turn the slots met, and then what a pass over the rest would give, are the slots of the plan;
-- and a slot is never above the number of crossings passed, so it fits. The tables are those of the slots' pass, with the latest leavings for the bays.
use mathlib.Core.Path.{◌≡◌, ◌∙◌, ap}
use mathlib.Core.List.{List, [], ◌∷◌}
use Prim.Native.Nat.{ℕ, suc, ◌≤◌, ◌<◌, ◌+◌, max}
use native.Mathlib.Omega.{arith}
use native.Mathlib.Numerals.{add-one}
use lib.ListN.{length, drop, replicate, length-set}
use Rattle.lists.proofs.Lists.{low-set}
use Rattle.paper.specs.Limits.{most_bays}
use Rattle.paper.specs.Yard.{Crossing, crossings, named, most_crossings}
use Rattle.paper.specs.OnePass.{Fits}
use Rattle.paper.proofs.Slotting.{at}
use Rattle.plans.proofs.Rest.{rest-next, rest-none, fits-named}
use Rattle.slots.proofs.Passing.{Tables}
use Rattle.trains.specs.Slots.{train_slots}
use Rattle.trains.specs.OnePass.{train_pass}
use Rattle.trains.proofs.OnePass.{train-start, train-step}
use Rattle.train_slots.specs.Turn.{slot_after, Turned}

-- the slots of the crossings that are still to be passed
abbrev pub still : List ℕ → List ℕ → List ℕ → ℕ → List ℕ
still plan carriers left i = train_pass (at carriers) (at left) (drop i (crossings plan))

pub still-start : (plan : List ℕ) → train_slots (crossings plan) ≡ still plan (replicate most_bays 0) (replicate most_bays 0) 0
still-start plan = train-start most_bays most_bays (crossings plan)

-- The turn of the crossing x at the name i.
module _ {plan carriers left : List ℕ} {i : ℕ} (t : Tables plan carriers left i) (more : i < length plan) (fits : Fits most_bays most_bays plan)
    {x : Crossing} (is : x ≡ named (crossings plan) i) where
  small : (x.carrier < most_bays) × (x.from < most_bays) × (x.to < most_bays)
  small = fits-named most_bays most_bays plan fits i more x is

  low : slot_after carriers left x ≤ i + 1
  low = omega (arith, t.low-carriers x.carrier, t.low-bays x.to)

  -- what a turn asks
  pub turn-asks : length plan ≤ most_crossings → (x.carrier < most_bays) × (x.from < most_bays) × (x.to < most_bays) × (slot_after carriers left x < 4294967296)
  turn-asks few = (small.0, small.1, small.2, omega (arith, low))

  module _ {s : ℕ} {carriers' left' : List ℕ} (turned : Turned carriers left x s carriers' left') where
    pub tables-on : Tables plan carriers' left' (i + 1)
    tables-on =
        let slot-low : s ≤ i + 1 = rw turned.slot low in
        rw (turned.of_carriers, turned.of_left)
        (record {
          within = omega arith;
          all-carriers = length-set carriers x.carrier s ∙ t.all-carriers;
          all-bays = length-set left x.from s ∙ t.all-bays;
          low-carriers = low-set carriers x.carrier s i (i + 1) t.low-carriers (omega arith) slot-low;
          low-bays = low-set left x.from s i (i + 1) t.low-bays (omega arith) slot-low;
        })

    pub still-on : still plan carriers left i ≡ s ∷ still plan carriers' left' (i + 1)
    still-on =
        let next = rw (← is) at (rest-next plan i more) in
        let slot : s ≡ max (suc (at carriers x.carrier)) (at left x.to) =
        turned.slot ∙ ap (λ n. max n (at left x.to)) (add-one (at carriers x.carrier)) in
        rw (turned.of_carriers, turned.of_left)
        (ap (train_pass (at carriers) (at left)) next
        ∙ rw add-one (train-step carriers left x (drop (suc i) (crossings plan)) (rw t.all-carriers small.0) (rw t.all-bays small.1) s slot))

pub still-end : {plan carriers left : List ℕ} {i : ℕ} → Tables plan carriers left i → length plan ≤ i → still plan carriers left i ≡ []
unfolding train_pass
still-end {plan} {carriers} {left} {i} t h = ap (train_pass (at carriers) (at left)) (rest-none plan i h)
