-- The order of carriers around a ring, as one sees it who goes round from one of them.
-- Assumes nothing.
use Rattle.std.specs.Prelude.{ℕ, ◌<◌, ◌+◌, ◌-◌, ltb, if◌then◌else◌}
use Rattle.paper.specs.Yard.{Carrier, Yard, Placement, bay_of}
use Rattle.carousels.specs.Round.{Round}

-- how many places on from i comes j, going round n places
unfoldable pub ahead : ℕ → ℕ → ℕ → ℕ
ahead n i j = if ltb j i then (n + j) - i else j - i

-- the place that comes d places on from i
unfoldable pub further : ℕ → ℕ → ℕ → ℕ
further n i d = if ltb (i + d) n then i + d else (i + d) - n

module _ (Y : Yard) (o : Round Y) where
  -- the place where carrier c stands
  abbrev pub stands : Placement → Carrier → ℕ
  stands p c = o.place (bay_of p c)

  -- going round from a, one meets b before c
  abbrev pub Before : Placement → Carrier → Carrier → Carrier → Type 0
  Before p a b c = ahead Y.bays (stands p a) (stands p b) < ahead Y.bays (stands p a) (stands p c)
