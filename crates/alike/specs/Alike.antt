-- Placements at which the same bays are occupied, by whichever carriers: a swap over the same rail goes the same way at both, or fails at both.
-- Assumes nothing.
use Rattle.std.specs.Prelude.{◌≡◌, Bool, true, false, List, [], map, ◌↔◌, ◌<◌, length}
use Rattle.std.proofs.Math.Option.{Option, none, some}
use Rattle.paper.specs.Basics.{if_some◌then◌else◌, ◌and◌, find, In}
use Rattle.paper.specs.Yard.{Bay, Carrier, Yard, Placement, Crossing, open_bays, bay_of, is_empty, joined, junction}
use Rattle.paper.specs.Path.{nearest_first}
use Rattle.paper.specs.Procedure.{Made, trial, swap}
use Rattle.paper.proofs.Playing.{Apart, Sound}

-- Each bay of the yard is empty at p exactly if it is empty at q.
abbrev pub Alike : Yard → Placement → Placement → Type 0
Alike Y p q = (b : Bay) → In b (open_bays Y) → is_empty p b ≡ is_empty q b

-- At p and at q no bay has two carriers and the same bays are occupied; r and s stand at p where r' and s' stand at q.
pub record Matched (Y : Yard) (r s : Carrier) (p : Placement) (r' s' : Carrier) (q : Placement) : Type 0 where
  pub apart : Apart p
  pub apart' : Apart q
  pub alike : Alike Y p q
  -- r and r' are carriers, and stand at the same bay
  pub there : r < length p
  pub there' : r' < length q
  pub first : bay_of p r ≡ bay_of q r'
  -- and so do s and s'
  pub with : s < length p
  pub with' : s' < length q
  pub second : bay_of p s ≡ bay_of q s'

-- the two bays of a crossing, whoever crosses
abbrev pub track : Crossing → Bay × Bay
track x = (x.from, x.to)

abbrev pub tracks : List Crossing → List (Bay × Bay)
tracks xs = map track xs

-- crossings over the same tracks in the same order, and the same count
pub record Likewise (a b : Made) : Type 0 where
  pub over : tracks a.moves ≡ tracks b.moves
  pub parks : a.parked ≡ b.parked

-- Both answers are missing; or neither is, and the two stand in relation R.
abbrev pub Both : {A : Type 0} → (A → A → Type 0) → Option A → Option A → Type 0
Both R none none = Unit {0}
Both R none (some b) = ⊥
Both R (some a) none = ⊥
Both R (some a) (some b) = R a b

-- Both actions fail, or both succeed over the same tracks.
abbrev pub Agree : Option Made → Option Made → Type 0
Agree a b = Both Likewise a b

-- v is a junction whose trial succeeds
abbrev pub fits : Yard → Carrier → Carrier → Placement → Bay → Bool
fits Y r s p v = junction Y v and (if_some trial Y r s v p then (λ m. true) else false)

-- What the two swaps have in common.
pub record SwapsAlike (Y : Yard) (r s : Carrier) (p : Placement) (r' s' : Carrier) (q : Placement) : Type 0 where
  -- the trials at each bay that is reached
  pub trials : (v : Bay) → In v (nearest_first Y [] (bay_of p r)) → Agree (trial Y r s v p) (trial Y r' s' v q)
  -- the first junction that fits
  pub chosen : find (fits Y r s p) (nearest_first Y [] (bay_of p r)) ≡ find (fits Y r' s' q) (nearest_first Y [] (bay_of q r'))
  -- the swaps themselves, and whether they fail
  pub swaps : Agree (swap Y r s p) (swap Y r' s' q)
  pub fail : (swap Y r s p ≡ none) ↔ (swap Y r' s' q ≡ none)

-- In a sound yard, where r and s stand side by side: whether a swap over their rail succeeds, and at which junction, depends on the occupied bays alone.
abbrev pub OccupiedDecide : Yard → Type 0
OccupiedDecide Y =
    Sound Y
    → (r s : Carrier) (p : Placement) (r' s' : Carrier) (q : Placement)
    → Matched Y r s p r' s' q
    → joined Y (bay_of p r) (bay_of p s) ≡ true
    → SwapsAlike Y r s p r' s' q
