-- What a step asks and says: no rail of the table joins a bay to itself, and it is lent the bays of the finished carriers.
-- Assumes nothing.
use Rattle.std.specs.Prelude.{◌≡◌, true, false, List, ℕ, ◌≤◌, ◌<◌, length, get_or, take}
use Rattle.paper.specs.Basics.{◌and◌, elem}
use Rattle.paper.specs.Procedure.{step}
use Rattle.paper.specs.Yard.{Bay, Carrier, Placement}
use Rattle.words.specs.Sets.{mem, mem_row, words, span}
use Rattle.choice.specs.Taking.{Taken}
use Rattle.moving.specs.Bounds.{swap_most}
use Rattle.moving.specs.Placed.{Placed}
use Rattle.acting.specs.Acting.{nothing, Within, ProceedsAs, CrossCounts}
use Rattle.acting.specs.declared.Tally.{Tally}
use Rattle.acting.specs.Tried.{Tried}
use Rattle.step.specs.declared.NextStep.{NextStep}

-- no rail joins a bay to itself
pub record Loopless (n : ℕ) (table : List ℕ) : Type 0 where
  pub none : (a : ℕ) → a < n → mem_row table a a ≡ false

-- the set has the bays of the carriers below `finished`, and no others
pub record BaysBelow (finished : ℕ) (p settled : List ℕ) : Type 0 where
  pub size : length settled ≡ words
  pub bays : (b : ℕ) → mem settled b ≡ elem b (take finished p)

-- Carrier r can step to bay w: a rail joins its own bay to it, and none a bay to itself. The carriers below `finished` are finished.
pub record CanStep (n : ℕ) (table : List ℕ) (finished : ℕ) (r : Carrier) (w : Bay) (p : Placement) : Type 0 where
  pub carrier_there : r < length p
  pub finished_there : finished ≤ length p
  pub bay_there : w < n
  pub rail : mem_row table (get_or p r 0) w ≡ true
  pub loopless : Loopless n table

-- ## What is asked, what is said

-- the next step can be made, and the set has the finished carriers' bays
pub record StepAsks (next : NextStep) (table p standing settled : List ℕ) : Type 0 where
  pub can : CanStep (length standing) table next.finished next.carrier.0 next.to.0 p
  pub below : BaysBelow next.finished p settled

-- the paper's step
pub record StepSays (next : NextStep) (table p standing out p' standing' empty' out' : List ℕ) (z : Tried) : Type 0 where
  pub few : Within nothing swap_most z
  pub proceeds : ProceedsAs (λ Y. step Y next.finished next.carrier.0 next.to.0) table p standing out nothing p' standing' empty' out' z

-- the same, and the set has the finished carriers' bays after it
pub record StepSettles (next : NextStep) (table p standing out p' standing' empty' settled' out' : List ℕ) (z : Tried) : Type 0 where
  pub says : StepSays next table p standing out p' standing' empty' out' z
  pub below : BaysBelow next.finished p' settled'

-- the step where a carrier stands at the bay that is not finished, and the empty bay e beside it is the choice
pub record AsideAsks (next : NextStep) (e : Bay) (table p standing empty : List ℕ) : Type 0 where
  pub can : CanStep (length standing) table next.finished next.carrier.0 next.to.0 p
  pub unfinished : next.finished ≤ get_or standing next.to.0 0
  pub full : mem empty next.to.0 ≡ false
  pub chosen : Taken table (λ b. mem_row table next.to.0 b and mem_row empty 0 b) e
  pub found : e < span

-- the step of r into an empty bay w, beside its own or not
pub record StepInAsks (r : Carrier) (w : Bay) (p standing empty settled : List ℕ) : Type 0 where
  pub most : length standing ≤ span
  pub empty_size : length empty ≡ words
  pub settled_size : length settled ≡ words
  pub placed : Placed (length standing) p standing empty
  pub carrier_there : r < length p
  pub bay_there : w < length standing
  pub free : mem empty w ≡ true

-- r crosses; if the set had the bays of the carriers below some number, it has them after it
pub record StepInSays (r : Carrier) (w : Bay) (p standing settled out p' standing' empty' settled' out' : List ℕ) (m : Tally) : Type 0 where
  pub crosses : CrossCounts (get_or p r 0) w p standing out p' standing' empty' out' m
  pub below : (finished : ℕ) → BaysBelow finished p settled → BaysBelow finished p' settled'
