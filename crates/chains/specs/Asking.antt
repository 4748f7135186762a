-- What following the links asks and says, and what making them asks.
-- Assumes nothing.
use Rattle.std.specs.Prelude.{◌≡◌, List, [], ℕ, suc, ◌≤◌, ◌<◌, ◌*◌, length}
use Rattle.paper.specs.Limits.{most_bays, most_crossings}
use Rattle.paper.specs.Yard.{crossings, named}
use Rattle.paper.specs.OnePass.{Fits}
use Rattle.chains.specs.Links.{key_of, links_each, own, sought, goal, Met, MetBelow, Linked}

-- the name is in the plan, there is a byte for each crossing, and the links lead on
pub record SearchAsks (plan gone links : List ℕ) (name : ℕ) : Type 0 where
  pub inside : name < length plan
  pub long_gone : length gone ≡ length plan
  pub linked : Linked plan gone links

-- ## Up

-- from `start` on, by links that go by what they look for
pub record SkipAsks (plan gone links : List ℕ) (start kind : ℕ) : Type 0 where
  pub upto : start ≤ length plan
  pub long_gone : length gone ≡ length plan
  pub kind_up : kind < 3
  pub steady : own kind ≡ sought kind
  pub linked : Linked plan gone links

-- whatever is looked for, as long as it is found at `start`: all between is passed
pub record SkipSays (plan gone : List ℕ) (start kind r : ℕ) : Type 0 where
  pub from : start ≤ r
  pub upto : r ≤ length plan
  pub met : (key : ℕ) → (start < length plan → key_of (sought kind) (named (crossings plan) start) ≡ key) → Met plan gone (sought kind) key start r

-- a link of the crossing, then links of the kind `again`, which look for the same and go by it
pub record AheadAsks (plan gone links : List ℕ) (name kind again : ℕ) : Type 0 where
  pub search : SearchAsks plan gone links name
  pub kind_up : kind < 3
  pub again_up : again < 3
  pub goes_by : own again ≡ sought kind
  pub seeks : sought again ≡ sought kind

-- the first after it that the link seeks and that is not dropped, or the plan's length
pub record AheadSays (plan gone : List ℕ) (name kind : ℕ) (links' : List ℕ) (r : ℕ) : Type 0 where
  pub after : name < r
  pub upto : r ≤ length plan
  pub met : Met plan gone (sought kind) (goal plan kind name) (suc name) r
  pub linked : Linked plan gone links'

-- the next that enters the bay which the crossing leaves, with nothing dropped
pub record EnteringAsks (plan links : List ℕ) (name : ℕ) : Type 0 where
  pub inside : name < length plan
  pub linked : Linked plan [] links

pub record EnteringSays (plan : List ℕ) (name r : ℕ) : Type 0 where
  pub after : name < r
  pub upto : r ≤ length plan
  pub met : Met plan [] 0 (named (crossings plan) name).from (suc name) r

-- ## Down

-- below `start`
pub record SkipBackAsks (plan gone links : List ℕ) (start : ℕ) : Type 0 where
  pub upto : start ≤ length plan
  pub long_gone : length gone ≡ length plan
  pub linked : Linked plan gone links

-- whatever bay, as long as the name below `start` leaves it: all between is passed
pub record SkipBackSays (plan gone : List ℕ) (start r : ℕ) : Type 0 where
  pub upto : r ≤ start
  pub met : (key : ℕ) → ((u : ℕ) → start ≡ suc u → (named (crossings plan) u).from ≡ key) → MetBelow plan gone key start r

-- the last before the crossing that leaves the bay which it enters and is not dropped
pub record BehindSays (plan gone : List ℕ) (name : ℕ) (links' : List ℕ) (r : ℕ) : Type 0 where
  pub upto : r ≤ name
  pub met : MetBelow plan gone (named (crossings plan) name).to name r
  pub linked : Linked plan gone links'

-- ## Making the links

-- there is room for them, and bays and carriers are numbers of tables
pub record FillAsks (plan links : List ℕ) : Type 0 where
  pub short : length plan ≤ most_crossings
  pub long : length links ≡ length plan * links_each
  pub fits : Fits most_bays most_bays plan
