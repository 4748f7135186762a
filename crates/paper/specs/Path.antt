-- Ways between bays: what can be reached, what is nearest, and the shortest path.
-- They stand here twice: in the document's words, and as they are computed, by rings. proofs/Shortest, Nearest and Reach show that both say the same.
-- Assumes nothing.
use Rattle.std.specs.Prelude.{Bool, true, List, [], ◌∷◌, ◌++◌, ◌⊎◌, ◌≡◌, ℕ, zero, suc, min, ◌<◌, ◌≤◌, eqb, ltb, length, get_or, if◌then◌else◌}
use Rattle.std.proofs.Math.Option
use Rattle.std.proofs.Math.Option.{Option, none, some}
use Rattle.paper.specs.Basics.{if_some◌then◌else◌, ◌and◌, when, filter, any, first_of, lowest_of, concat, elem, without, In, Out, NoDup}
use Rattle.paper.specs.Yard.{Bay, Rail, Yard, Placement, joined, rails_at, lowest_open, open_bays}

-- ## In words

module _ (Y : Yard) where
  -- a bay of the yard that is not held
  abbrev pub Free : List Bay → Bay → Type 0
  Free held b = In b (open_bays Y) × Out b held

  -- from u by a rail to the first of the list, from each to the next, and so to v; all of them free
  abbrev pub Route : List Bay → Bay → List Bay → Bay → Type 0
  Route held u [] v = u ≡ v
  Route held u (x ∷ xs) v = (joined Y u x ≡ true) × Free held x × Route held x xs v

  -- the list of bays, from u to v, each joined to the next, none held
  pub record Way (held : List Bay) (u : Bay) (l : List Bay) (v : Bay) : Type 0 where
    pub rest : List Bay
    pub starts : l ≡ u ∷ rest
    pub free : Free held u
    pub route : Route held u rest v

  -- "the nearest empty bay that is reached from x through bays not held, itself not held"; "among nearest empty bays take the one
  -- with fewest rails, and only then the lowest number"
  pub record Nearest (held : List Bay) (p : Placement) (x e : Bay) : Type 0 where
    pub empty : Out e p
    pub path : List Bay
    pub way : Way held x path e
    pub nearest : (b : Bay) (m : List Bay) → Out b p → Way held x m b → length path ≤ length m
    pub fewest : (b : Bay) (m : List Bay) → Out b p → Way held x m b → length m ≡ length path → rails_at Y e ≤ rails_at Y b
    pub lowest : (b : Bay) (m : List Bay) → Out b p → Way held x m b → length m ≡ length path → rails_at Y b ≡ rails_at Y e → e ≤ b

  -- the rails, one after the other and each in either direction, lead from a to b
  abbrev pub Along : Bay → List Rail → Bay → Type 0
  Along a [] b = a ≡ b
  Along a (r ∷ rs) b =
      (any (λ s. eqb s.0 r.0 and eqb s.1 r.1) Y.rails ≡ true)
      × (((a ≡ r.0) × Along r.1 rs b) ⊎ ((a ≡ r.1) × Along r.0 rs b))

  -- "some bay cannot be reached from bay 0": no list of rails leads there
  abbrev pub Reached : Bay → Type 0
  Reached b = (rs : List Rail) × Along (lowest_open Y) rs b

-- "the lowest list of bays compared from the first bay on": s is not above t
abbrev pub NotAbove : List Bay → List Bay → Type 0
NotAbove [] t = Unit {0}
NotAbove (a ∷ s) [] = Unit {0}
NotAbove (a ∷ s) (b ∷ t) = (a < b) ⊎ ((a ≡ b) × NotAbove s t)

-- "Shortest path: fewest rails; among equals, the lowest list of bays compared from the first bay on."
pub record Shortest (Y : Yard) (held : List Bay) (u v : Bay) (l : List Bay) : Type 0 where
  -- joined bays from u to v, none held, none twice
  pub way : Way Y held u l v
  pub once : NoDup l
  -- no such list has fewer rails
  pub fewest : (m : List Bay) → Way Y held u m v → length l ≤ length m
  -- and none with as many is lower
  pub lowest : (m : List Bay) → Way Y held u m v → length m ≡ length l → NotAbove l m

-- a is taken rather than b, by the number of rails that each bay has: fewer, or as many and the lower number
abbrev pub Rather : (Bay → ℕ) → Bay → Bay → Type 0
Rather rails a b = (rails a < rails b) ⊎ ((rails a ≡ rails b) × (a ≤ b))

-- ## By rings

module _ (Y : Yard) where
  -- the bays that are neither held nor seen yet
  abbrev pub unseen : List Bay → List Bay → List Bay
  unseen held seen = without (held ++ seen) (open_bays Y)

  -- those of them that have a neighbour in the ring
  unfoldable pub next_ring : List Bay → List Bay → List Bay → List Bay
  next_ring held seen ring = filter (λ b. any (joined Y b) ring) (unseen held seen)

  unfoldable pub rings_from : List Bay → ℕ → List Bay → List Bay → List (List Bay)
  rings_from held zero seen ring = []
  rings_from held (suc k) seen ring = ring ∷ rings_from held k (ring ++ seen) (next_ring held (ring ++ seen) ring)

  -- the bays at 0 rails from x, at 1, at 2, .. through bays not held, each ring rising; n rings are enough
  abbrev pub rings : List Bay → Bay → List (List Bay)
  rings held x = rings_from held Y.bays [] (x ∷ [])

  -- all bays reached from x through bays not held: the nearest first, ties by the lowest number
  abbrev pub nearest_first : List Bay → Bay → List Bay
  nearest_first held x = concat (rings held x)

  -- "the one with fewest rails, and only then the lowest number": of two bays
  unfoldable pub fewer : Bay → Bay → Bay
  fewer a b =
      if ltb (rails_at Y a) (rails_at Y b) then a
      else if ltb (rails_at Y b) (rails_at Y a) then b
      else min a b

  -- and of the bays in a list that pass the test
  unfoldable pub choice : (Bay → Bool) → List Bay → Option Bay
  choice q [] = none
  choice q (x ∷ xs) =
      let rest = choice q xs in
      let taken = if_some rest then (λ y. some (fewer x y)) else some x in
      if q x then taken else rest

  -- of the bays reached from x through bays not held, the nearest that passes the test, and among the nearest that choice
  unfoldable pub nearest_of : (Bay → Bool) → List Bay → Bay → Option Bay
  nearest_of q held x = first_of (choice q) (rings held x)

  -- which ring u is in: how many rails it is from their middle
  unfoldable pub ring_of : Bay → List (List Bay) → ℕ
  ring_of u [] = zero
  ring_of u (r ∷ rs) = let rest = ring_of u rs in if elem u r then zero else suc rest

  -- from u, which is d rails from the middle: each next bay is the lowest neighbour in the ring one nearer
  unfoldable pub inward : List (List Bay) → ℕ → Bay → List Bay
  inward rs zero u = u ∷ []
  inward rs (suc d) u = u ∷ inward rs d (Option.get_or (lowest_of (joined Y u) (get_or rs d [])) u)

  -- "Shortest path: fewest rails; among equals, the lowest list of bays compared from the first bay on."
  -- From u to v through bays not held, where there is one.
  unfoldable pub shortest_path : List Bay → Bay → Bay → List Bay
  shortest_path held u v = let rs = rings held v in inward rs (ring_of u rs) u

  -- the same, or none where there is no way
  unfoldable pub path_between : List Bay → Bay → Bay → Option (List Bay)
  path_between held u v = when (elem u (nearest_first held v)) (shortest_path held u v)
