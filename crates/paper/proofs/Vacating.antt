-- A vacate is legal, empties its bay and moves nobody who is held: on the path to the nearest empty bay every bay but the last
-- is occupied, so carriers can move on one by one from its far end.
use mathlib.Core.Path.{◌≡◌, refl, ◌∙◌, ap}
use mathlib.Core.Bool.{true, false}
use mathlib.Core.List.{List, [], ◌∷◌, ◌++◌}
use mathlib.Core.Option.{some}
use Prim.Native.Nat.{ℕ, zero, suc, ◌<◌, ◌≤◌, ◌+◌}
use native.Mathlib.Omega.{arith}
use lib.ListN.{length, get_or}
use lib.Dec.{eqb}
use borrow.Author.Tests.{not-true, not-false, ne_eqb}
use Rattle.paper.specs.Basics.{if_some◌then◌else◌, elem, up_to, In, Out}
use Rattle.paper.specs.Yard.{Bay, Carrier, Yard, Placement, Crossing, crossing, bay_of, carrier_at, is_empty, move, after, joined, legal_plan}
use Rattle.paper.specs.Path.{nearest_of, rings, ring_of, inward, shortest_path, Free}
use Rattle.paper.specs.Procedure.{Made, only, shift, vacate, nearest_empty, filled_by, parking}
use Rattle.paper.proofs.Tests.{by_cases, by-option, not-both, never-some}
use Rattle.paper.proofs.Members.{Out-head, Out-tail}
use Rattle.paper.proofs.Rings.{ring-zero, in-concat, distance-in, distance_least, Walk, here, on, ring-walk, walk-ring, walk-back, walk-free, first-ring, rings_from-length, FirstRing}
use Rattle.paper.proofs.Shortest.{inward-zero, inward-head, inward-in, apart_from, next, around-free}
use Rattle.paper.proofs.Playing.{Apart, Legal, legal-facts, legal-of, after-append, after-length, plan-head, plan-tail, plan-cons, plan-append, place_of-bay, place_of-there, move-other, move-apart, move-empties, move-out}

pub plan-apart : (Y : Yard) (p : Placement) (xs : List Crossing) → Apart p → legal_plan Y p xs ≡ true → Apart (after p xs)
unfolding after
plan-apart Y p [] a h = a
plan-apart Y p (x ∷ xs) a h =
    plan-apart Y (move p x) xs (move-apart Y p x (legal-facts Y p x (plan-head Y p x xs h)) a) (plan-tail Y p x xs h)

pub shift-cons : (p : Placement) (a b : Bay) (l : List Bay) → shift p (a ∷ b ∷ l) ≡ shift p (b ∷ l) ++ (crossing (carrier_at p a) a b ∷ [])
unfolding shift
shift-cons p a b l = refl

pub shift_one : (p : Placement) (a : Bay) → shift p (a ∷ []) ≡ []
unfolding shift
shift_one p a = refl

module _ (Y : Yard) (p : Placement) (apart : Apart p) where
  -- Carriers can be shifted along the path: one at each bay but the last, which is empty; no bay twice.
  abbrev pub Shiftable : List Bay → Type 0
  Shiftable [] = ⊥
  Shiftable (a ∷ []) = Out a p
  Shiftable (a ∷ b ∷ l) = In a p × (joined Y a b ≡ true) × Out a (b ∷ l) × Shiftable (b ∷ l)

  -- what crossings do that empty bay a and touch no bay outside the list
  pub record Shifted (a : Bay) (l : List Bay) (xs : List Crossing) : Type 0 where
    pub legal : legal_plan Y p xs ≡ true
    pub empties : Out a (after p xs)
    pub keeps : (c : Carrier) → c < length p → Out (bay_of p c) l → bay_of (after p xs) c ≡ bay_of p c
    pub spares : (z : Bay) → Out z l → Out z p → Out z (after p xs)

  -- one carrier more, behind those that were shifted
  behind : (a b : Bay) (l : List Bay) (xs : List Crossing) → In a p → joined Y a b ≡ true → Out a (b ∷ l) → Shifted b (b ∷ l) xs
      → Shifted a (a ∷ b ∷ l) (xs ++ (crossing (carrier_at p a) a b ∷ []))
  unfolding after legal_plan
  behind a b l xs i j o s =
      let q = after p xs in
      let c = carrier_at p a in
      let x = crossing c a b in
      let stood : bay_of p c ≡ a = place_of-bay p a i in
      let k : c < length p = place_of-there p a i in
      let legal-x : Legal Y q x = record {
        there = rw after-length k;
        stands = s.keeps c k (rw stood o) ∙ stood;
        rail = j;
        free = s.empties;
      } in
      record {
        legal = plan-append Y p xs (x ∷ []) s.legal (plan-cons Y q x [] (legal-of Y q x legal-x) refl);
        empties = rw after-append (move-empties Y q x legal-x (plan-apart Y p xs apart s.legal));
        keeps = λ d kd od.
            let other : eqb d c ≡ false = ne_eqb d c (λ e. Out-head (bay_of p d) a (b ∷ l) od (ap (bay_of p) e ∙ stood)) in
            rw after-append (move-other Y q x legal-x d other ∙ s.keeps d kd (Out-tail (bay_of p d) a (b ∷ l) od));
        spares = λ z oz op.
            let t = Out-tail z a (b ∷ l) oz in
            rw after-append (move-out Y q x legal-x z (s.spares z t op) (Out-head z b l t));
      }

  pub shift-shifts : (a : Bay) (l : List Bay) → Shiftable (a ∷ l) → Shifted a (a ∷ l) (shift p (a ∷ l))
  unfolding after legal_plan
  shift-shifts a [] h = rw shift_one (record { legal = refl; empties = h; keeps = λ c k o. refl; spares = λ z o k. k })
  shift-shifts a (b ∷ l) h = rw shift-cons (behind a b l (shift p (b ∷ l)) h.0 h.1 h.2 (shift-shifts b l h.3))

-- The path to the nearest empty bay e can be shifted along, and no bay of it is held.
module _ (Y : Yard) (held : List Bay) (p : Placement) (apart : Apart p) (x e : Bay) (free-x : Free Y held x)
    (first : nearest_empty Y held p x ≡ some e) where
  -- the ring of e around x
  found : FirstRing Y (is_empty p) (rings Y held x) e
  unfolding nearest_empty nearest_of
  found = first-ring Y (is_empty p) (rings Y held x) first

  fits : found.ring < Y.bays
  fits = rw rings_from-length at found.there

  to-e : Walk Y held x found.ring e
  to-e = ring-walk Y held Y.bays x found.ring e found.found.there

  pub free-e : Free Y held e
  free-e = walk-free Y held free-x to-e

  -- x is in a ring around e that is no further out
  x-around : (i : ℕ) × (i ≤ found.ring) × In x (get_or (rings Y held e) i [])
  x-around = walk-ring Y held Y.bays e (walk-back Y held free-x to-e) fits

  pub far : ℕ
  far = ring_of Y x (rings Y held e)

  pub far-in : In x (get_or (rings Y held e) far [])
  unfolding far
  far-in = distance-in Y x (rings Y held e) (in-concat Y x (rings Y held e) x-around.0 x-around.2)

  far-fits : far ≤ found.ring
  unfolding far
  far-fits = omega (arith, distance_least Y x (rings Y held e) x-around.0 x-around.2, x-around.1)

  occupied : (i : ℕ) (u : Bay) → Walk Y held x i u → i < far → In u p
  occupied i u w h =
      let r = walk-ring Y held Y.bays x w (omega (arith, far-fits, fits)) in
      not-false (elem u p) (found.earlier r.0 u (omega (arith, far-fits, r.1)) r.2)

  -- from a bay that is i rails from x and d from e
  pub shiftable : (d i : ℕ) (u : Bay) → In u (get_or (rings Y held e) d []) → Walk Y held x i u → i + d ≤ far
      → Shiftable Y p apart (inward Y (rings Y held e) d u)
  shiftable zero i u k w h =
      rw (inward-zero, ring-zero Y held Y.bays [] e u k) (not-true (elem e p) found.found.passes)
  shiftable (suc d) i u k w h =
      let n = next Y held e d u k in
      let t = inward-head Y (rings Y held e) d n.bay in
      let ih = shiftable d (suc i) n.bay n.nearer (on w n.rail (around-free Y held e free-e d n.bay n.nearer)) (omega arith) in
      let apart-u = apart_from Y held e d u n.bay k n.nearer in
      rw (n.goes_on, t.1) (occupied i u w (omega arith), n.rail, rw t.1 at apart-u, rw t.1 at ih)

  -- so the shift along the shortest path to e does what vacating is for
  pub vacates : Shifted Y p apart x (shortest_path Y held x e) (shift p (shortest_path Y held x e))
  unfolding shortest_path far
  vacates =
      let t = inward-head Y (rings Y held e) far x in
      let s = shiftable far 0 x far-in here (omega arith) in
      rw t.1 (shift-shifts Y p apart x t.0 (rw t.1 at s))

  pub path-shiftable : Shiftable Y p apart (shortest_path Y held x e)
  unfolding shortest_path far
  path-shiftable = shiftable far 0 x far-in here (omega arith)

  pub path-free : (b : Bay) → In b (shortest_path Y held x e) → Free Y held b
  unfolding shortest_path far
  path-free b y = let r = inward-in Y held e far x far-in b y in around-free Y held e free-e r.0 b r.2

  pub path-not-held : (b : Bay) → In b held → Out b (shortest_path Y held x e)
  unfolding shortest_path far
  path-not-held b i =
      by_cases (elem b (shortest_path Y held x e))
      (λ y. let r = inward-in Y held e far x far-in b y in not-both i (around-free Y held e free-e r.0 b r.2).1)
      (λ o. o)

-- What vacating does: legal crossings, after which x is empty; no carrier at a held bay has moved, and none has come to one.
pub record Vacated (Y : Yard) (held : List Bay) (x : Bay) (p : Placement) (xs : List Crossing) : Type 0 where
  pub legal : legal_plan Y p xs ≡ true
  pub empties : Out x (after p xs)
  pub keeps : (c : Carrier) → c < length p → In (bay_of p c) held → bay_of (after p xs) c ≡ bay_of p c
  pub spares : (z : Bay) → In z held → Out z p → Out z (after p xs)

at_once : (Y : Yard) (held : List Bay) (x : Bay) (p : Placement) → is_empty p x ≡ true → Vacated Y held x p []
unfolding after legal_plan
at_once Y held x p a = record { legal = refl; empties = not-true (elem x p) a; keeps = λ c k m. refl; spares = λ z m o. o }

-- What a vacate that succeeds does.
pub vacate-vacates : (Y : Yard) (held : List Bay) (x : Bay) (p : Placement) (m : Made)
    → Apart p → In x (up_to Y.bays) → vacate Y held x p ≡ some m → Vacated Y held x p m.moves
unfolding vacate
vacate-vacates Y held x p m apart i h =
    by_cases (is_empty p x)
    (λ a. let none-moved : only [] ≡ m = let z = rw a at h in cc in rw (← none-moved) (at_once Y held x p a))
    (λ a. by_cases (elem x held)
    (λ b. never-some m (rw (a, b) at h))
    (λ b. by-option (nearest_empty Y held p x)
    (λ c. never-some m (rw (a, b, c) at h))
    (λ e c.
    let s = vacates Y held p apart x e (i, b) c in
    let same : record { moves = shift p (shortest_path Y held x e); parked = parking Y e } ≡ m = let z = rw (a, b, c) at h in cc in
    rw (← same) (record {
      legal = s.legal;
      empties = s.empties;
      keeps = λ d k m. s.keeps d k (path-not-held Y held p apart x e (i, b) c (bay_of p d) m);
      spares = λ z m o. s.spares z (path-not-held Y held p apart x e (i, b) c z m) o;
    }))))

pub vacate-empty : (Y : Yard) (held : List Bay) (x : Bay) (p : Placement) → Out x p → vacate Y held x p ≡ some (only [])
unfolding vacate
vacate-empty Y held x p o = rw o

-- It counts 1 exactly if it filled a bay, and that bay has three rails or more.
pub vacate-parks : (Y : Yard) (held : List Bay) (x : Bay) (p : Placement) (m : Made) → vacate Y held x p ≡ some m
    → m.parked ≡ (if_some filled_by Y held x p then parking Y else 0)
unfolding vacate
vacate-parks Y held x p m h =
    by_cases (is_empty p x)
    (λ a. let none-moved : only [] ≡ m = let z = rw a at h in cc in rw (← none-moved, a))
    (λ a. by_cases (elem x held)
    (λ b. never-some m (rw (a, b) at h))
    (λ b. by-option (nearest_empty Y held p x)
    (λ c. never-some m (rw (a, b, c) at h))
    (λ e c.
    let same : record { moves = shift p (shortest_path Y held x e); parked = parking Y e } ≡ m = let z = rw (a, b, c) at h in cc in
    rw (← same, a, b, c))))

-- The bay that it fills is one of the yard's.
pub filled-inside : (Y : Yard) (held : List Bay) (x e : Bay) (p : Placement) → Apart p → In x (up_to Y.bays) → filled_by Y held x p ≡ some e → In e (up_to Y.bays)
filled-inside Y held x e p apart i h =
    by_cases (is_empty p x)
    (λ a. never-some e (rw a at h))
    (λ a. by_cases (elem x held)
    (λ b. never-some e (rw (a, b) at h))
    (λ b. (free-e Y held p apart x e (i, b) (rw (a, b) at h)).0))
