-- The name of the last return of a trip.
-- Assumes nothing.
use Rattle.std.specs.Prelude.{List, ℕ, ◌+◌, drop}
use Rattle.std.proofs.Math.Option.{Option, none, some}
use Rattle.paper.specs.Yard.{Crossing}
use Rattle.trips.specs.Names.{last_place}

-- the name of the last return, where it is looked for from the name m on and `last` is the last one before it
abbrev pub name_at : ℕ → ℕ → Option ℕ → ℕ
name_at last m none = last
name_at last m (some d) = m + d

-- the same for a trip that begins with the crossing x
abbrev pub last_from : Crossing → List Crossing → List ℕ → ℕ → ℕ → ℕ
last_from x xs gone last m = name_at last m (last_place x.carrier x.from (drop m gone) (drop m xs))
