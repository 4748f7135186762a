-- Plans shortened by hand, and computed here: each rule of the request decides one of them.
-- Assumes nothing.
use mathlib.Core.Path.{◌≡◌, refl}
use mathlib.Core.List.{List, [], ◌∷◌, map}
use mathlib.Core.Option.{none, some}
use Prim.Native.Nat.{ℕ}
use Rattle.paper.specs.Yard.{Bay, Crossing, crossing, pack}
use Rattle.paper.specs.Order.{order}
use Rattle.paper.specs.Docket.{room, mismarked, missed, begun}
use Rattle.paper.specs.Answers.{Answer, accepted, refused}
use Rattle.worked.proofs.Worked.{computing, T, Y1-plan}
use Rattle.trips.specs.Trips.{cut, shorten}
use Rattle.trips.specs.Shortening.{shortening, shortening_end}
use Rattle.trips.specs.Trips
use Rattle.trips.specs.Shortening

-- every definition of the request opened, so that the checker computes with them
unfoldable pub computing-trips : Unit {0}
unfolding computing Trips.last_return Trips.kept Trips.cut Trips.cuts Shortening.any_done Shortening.shorten_refusal Shortening.shortening
computing-trips = tt

-- there, back, and there again: the lower name goes first, so the crossing kept is the last
abbrev thrice : List Crossing
thrice = crossing 0 0 1 ∷ crossing 0 1 0 ∷ crossing 0 0 1 ∷ []

-- the last return counts: both rounds from bay 0 are one cut
abbrev two-rounds : List Crossing
two-rounds = crossing 0 0 1 ∷ crossing 1 5 6 ∷ crossing 0 1 0 ∷ crossing 0 0 2 ∷ crossing 0 2 0 ∷ crossing 1 6 7 ∷ []

-- carrier 1 used bay 1 meanwhile; once its own trip is dropped nobody did
abbrev freed : List Crossing
freed = crossing 0 1 0 ∷ crossing 1 2 1 ∷ crossing 1 1 2 ∷ crossing 0 0 1 ∷ []

-- Carrier 0 goes 0, 1, 2, 3, 0, 2, and carrier 1 looks in at bay 0 meanwhile. The lowest trip is the one from bay 2; dropping
-- carrier 1's first would have kept the way 0, 2 in place of 0, 1, 2.
abbrev lowest-first : List Crossing
lowest-first =
    crossing 0 0 1 ∷ crossing 0 1 2 ∷ crossing 0 2 3 ∷ crossing 1 4 0 ∷ crossing 1 0 4 ∷ crossing 0 3 0 ∷ crossing 0 0 2 ∷ []

pub all-shortened : map shorten (thrice ∷ two-rounds ∷ freed ∷ lowest-first ∷ Y1-plan ∷ [] ∷ [])
    ≡ (crossing 0 0 1 ∷ [])
    ∷ (crossing 1 5 6 ∷ crossing 1 6 7 ∷ [])
    ∷ []
    ∷ (crossing 0 0 1 ∷ crossing 0 1 2 ∷ [])
    ∷ Y1-plan
    ∷ []
    ∷ []
unfolding computing-trips
all-shortened = refl

pub all-cut : map cut (two-rounds ∷ freed ∷ Y1-plan ∷ [])
    ≡ some (crossing 1 5 6 ∷ crossing 1 6 7 ∷ []) ∷ some (crossing 0 1 0 ∷ crossing 0 0 1 ∷ []) ∷ none ∷ []
unfolding computing-trips
all-cut = refl

-- yard "T" with one carrier, from bay 0 to bay 1 by the first plan: the order of the tests
abbrev asked : Bay → List ℕ → ℕ → Answer
asked goal marks lent = shortening (order 4 T (0 ∷ []) (goal ∷ [])) (map pack thrice) marks lent

pub all-answered : (asked 1 (0 ∷ 0 ∷ 0 ∷ []) 1
    ∷ asked 1 (0 ∷ 0 ∷ 0 ∷ []) 0
    ∷ asked 1 (1 ∷ 0 ∷ 0 ∷ []) 0
    ∷ asked 1 (0 ∷ 1 ∷ 0 ∷ []) 1
    ∷ asked 1 (1 ∷ 2 ∷ 0 ∷ []) 1
    ∷ asked 1 (1 ∷ 1 ∷ []) 1
    ∷ asked 2 (1 ∷ 1 ∷ []) 1
    ∷ [])
    ≡ accepted (crossing 0 0 1 ∷ [])
    ∷ refused (room 1)
    ∷ refused begun
    ∷ refused mismarked
    ∷ refused mismarked
    ∷ refused mismarked
    ∷ refused (missed 0)
    ∷ []
unfolding computing-trips
all-answered = refl

-- what stands in a lent list of three places at the end
abbrev ends_as : List ℕ → List ℕ
ends_as marks = shortening_end (order 4 T (0 ∷ []) (1 ∷ [])) (map pack thrice) marks (7 ∷ 7 ∷ 7 ∷ [])

pub all_left : map ends_as ((0 ∷ 0 ∷ 0 ∷ []) ∷ (1 ∷ 0 ∷ 0 ∷ []) ∷ []) ≡ (1 ∷ 7 ∷ 7 ∷ []) ∷ (7 ∷ 7 ∷ 7 ∷ []) ∷ []
unfolding computing-trips
all_left = refl
