-- What the pass over plan and marks promises.
-- Assumes nothing.
use Rattle.std.specs.Prelude.{◌≡◌, List, ℕ, ◌<◌, ltb, length, get_or, if◌then◌else◌}
use Rattle.paper.specs.Limits.{most_bays}
use Rattle.paper.specs.Yard.{Bay, Carrier, Placement, crossings, named, after}
use Rattle.paper.specs.Dependence.{done_of, count_of, slots}
use Rattle.bills.specs.Billing.{untouched, highest_done, last_done}
use Rattle.afresh.specs.declared.Slots.{Slots}

-- where the crossing of the name l leads, or the bay where the carrier was if the plan has no such name
abbrev pub led_to : List ℕ → ℕ → Bay → Bay
led_to plan l was = if ltb l (length plan) then (named (crossings plan) l).to else was

pub record Led (plan last : List ℕ) (at at' : Placement) : Type 0 where
  pub long : length at' ≡ most_bays
  pub leads : (c : Carrier) → c < most_bays → get_or at' c 0 ≡ led_to plan (get_or last c 0) (get_or at c 0)

-- the slot of a name that is in the plan
abbrev pub SlotOf : List ℕ → ℕ → ℕ → Type 0
SlotOf plan name slot = name < length plan → slot ≡ get_or (slots (crossings plan)) name 0

pub record Billed (plan marks : List ℕ) (name : ℕ) (at at' : Placement) (billed last : List ℕ) (r : Slots) : Type 0 where
  pub stand : at' ≡ after at (done_of (crossings plan) marks)
  pub counts : (c : Carrier) → c < most_bays → get_or billed c 0 ≡ count_of c (done_of (crossings plan) marks)
  pub names : (c : Carrier) → c < most_bays → get_or last c 0 ≡ last_done c untouched 0 (crossings plan) marks
  pub highest : r.highest ≡ highest_done (slots (crossings plan)) marks
  pub asked : SlotOf plan name r.asked
