-- What is promised of the shorter plan and the lent list: 8, or the plan in its first places.
-- Assumes nothing.
use Rattle.std.specs.Prelude.{◌≡◌, List, ℕ, ◌≤◌, length}
use Rattle.paper.specs.Yard.{crossings}
use Rattle.paper.specs.Answers.{told, written}
use Rattle.docket.specs.Reading.{verdict_of}
use Rattle.docket.specs.Verdict.{Verdict}
use Rattle.trips.specs.Trips.{shorten}
use Rattle.trips.specs.Names.{left}
use Rattle.trips.specs.Shortening.{into_room}

-- a byte for each crossing, the count of those still in the plan, and room for them
pub record WriteAsks (plan gone out : List ℕ) (count : ℕ) : Type 0 where
  pub long : length gone ≡ length plan
  pub counted : count ≡ length (left gone plan)
  pub room : count ≤ length out

-- once 25 has passed
pub record RoomSays (plan out : List ℕ) (answer : Verdict) (out' : List ℕ) : Type 0 where
  pub answers : verdict_of answer ≡ told (into_room (length out) (shorten (crossings plan)))
  pub ends : out' ≡ written (into_room (length out) (shorten (crossings plan))) out
