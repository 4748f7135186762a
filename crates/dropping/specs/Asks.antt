-- What the searches and the cuts ask for, and what they say.
-- Assumes nothing.
use Rattle.std.specs.Prelude.{◌≡◌, true, List, ℕ, suc, ◌≤◌, ◌<◌, ◌-◌, length}
use Rattle.paper.specs.Yard.{Carrier, crossings, named}
use Rattle.words.specs.Sets.{mem}
use Rattle.trips.specs.Trips.{is_of}
use Rattle.trips.specs.Names.{drop_trip}
use Rattle.trips.proofs.Freeing.{LastLeaving, Noted}
use Rattle.chains.specs.Links.{Passed, Linked}
use Rattle.chains.specs.Asking.{SearchAsks}
use Rattle.dropping.specs.Going.{Going, rank}

-- the last leaving before the name, if there is one
pub record LeavingSays (plan gone links' : List ℕ) (name r : ℕ) : Type 0 where
  pub upto : r ≤ name
  pub is_last : (k : ℕ) → LastLeaving gone (crossings plan) (named (crossings plan) name).to name k → r ≡ k
  pub linked : Linked plan gone links'

-- the carrier's next after the name, up to `last`
pub record OwnSays (plan gone links' : List ℕ) (name last r : ℕ) : Type 0 where
  pub after : name < r
  pub upto : r ≤ suc last
  pub passed : Passed plan gone 1 (named (crossings plan) name).carrier (suc name) r
  pub own : r ≤ last → (named (crossings plan) r).carrier ≡ (named (crossings plan) name).carrier
  pub linked : Linked plan gone links'

-- what is noted of the n crossings from the name on, none below r; and r is not above `top`
pub record NotedSays (plan gone todo : List ℕ) (carrier : Carrier) (name n top : ℕ) (todo' links' : List ℕ) (r : ℕ) : Type 0 where
  pub low : r ≤ top
  pub noted : Noted gone (crossings plan) carrier name n (mem todo) (mem todo') r
  pub linked : Linked plan gone links'

-- the carrier's crossings from the name on, which is one, up to `last`
pub record TripAsks (plan gone links : List ℕ) (carrier : Carrier) (name last : ℕ) : Type 0 where
  pub starts : is_of carrier (named (crossings plan) name) ≡ true
  pub upto : name ≤ last
  pub search : SearchAsks plan gone links last

-- they are dropped
pub record DropSays (plan gone : List ℕ) (carrier : Carrier) (name last : ℕ) (gone' links' : List ℕ) : Type 0 where
  pub dropped : gone' ≡ drop_trip carrier name (suc last - name) gone (crossings plan)
  pub linked : Linked plan gone' links'

-- a look
pub record LookAsks (plan gone todo links : List ℕ) (name : ℕ) : Type 0 where
  pub inside : name < length plan
  pub going : Going plan gone todo name
  pub linked : Linked plan gone links

pub record LookSays (plan gone : List ℕ) (name : ℕ) (gone' todo' links' : List ℕ) (r : ℕ) : Type 0 where
  pub going : Going plan gone' todo' r
  pub less : rank plan gone' r < rank plan gone name
  pub linked : Linked plan gone' links'
