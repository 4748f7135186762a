-- The shortest path is what the document says. Each step inward goes to the lowest neighbour in the ring one nearer: so the path
-- is as short as the ring is near, no way of that length can go lower, and rings do not overlap, so no bay comes twice.
use mathlib.Core.Path.{◌≡◌, refl, sym, ◌∙◌, ap, ap₂}
use mathlib.Core.Bool.{Bool, true}
use mathlib.Core.List.{List, [], ◌∷◌, ◌++◌}
use mathlib.Core.Logic.{inl, inr, ⊎_elim, ◌↔◌}
use mathlib.Core.Option.{none, some}
use Prim.Native.Nat.{ℕ, zero, suc, ◌<◌, ◌≤◌}
use native.Mathlib.Omega.{arith}
use lib.Dec.{ltb}
use lib.ListN.{length, get_or}
use borrow.Author.Tests.{ltb-true, ltb-false}
use Rattle.paper.specs.Basics.{elem, without, filter, find, count_from, In, Out, NoDup, lowest_of}
use Rattle.paper.specs.Yard.{Bay, Yard, joined}
use Rattle.paper.specs.Path.{Free, Route, Way, NotAbove, Shortest, next_ring, rings_from, rings, nearest_first, ring_of, inward, shortest_path, path_between}
use Rattle.paper.proofs.Tests.{by_cases, not-both, some-when, none-when}
use Rattle.paper.proofs.Members.{In-nil, In-one, In-cases, lowest-passes, lowest-in, lowest-some, lowest-least, nothing-in-nil, count_low, filter-in}
use Rattle.paper.proofs.Rings.{joined-sym, distance-in, distance_least, Walk, here, on, walk-cons, walk-back, walk-free, ring-walk, walk-ring, ring-free, rings-apart, rings_from-length, in-ring, ring-step, ring-zero}
use Rattle.paper.proofs.Reach.{enough}

-- ## One step inward

pub inward-zero : (Y : Yard) (rs : List (List Bay)) (u : Bay) → inward Y rs 0 u ≡ u ∷ []
unfolding inward
inward-zero Y rs u = refl

pub inward-head : (Y : Yard) (rs : List (List Bay)) (d : ℕ) (u : Bay) → (l : List Bay) × (inward Y rs d u ≡ u ∷ l)
unfolding inward
inward-head Y rs zero u = ([], refl)
inward-head Y rs (suc d) u = (_, refl)

pub inward-length : (Y : Yard) (rs : List (List Bay)) (d : ℕ) (u : Bay) → length (inward Y rs d u) ≡ suc d
unfolding inward
inward-length Y rs zero u = refl
inward-length Y rs (suc d) u = ap suc (inward-length Y rs d _)

module _ (Y : Yard) (held : List Bay) (v : Bay) where
  -- the next bay on the way inward to v
  pub record Next (d : ℕ) (u : Bay) : Type 0 where
    pub bay : Bay
    pub rail : joined Y u bay ≡ true
    pub nearer : In bay (get_or (rings Y held v) d [])
    pub found : lowest_of (joined Y u) (get_or (rings Y held v) d []) ≡ some bay
    pub goes_on : inward Y (rings Y held v) (suc d) u ≡ u ∷ inward Y (rings Y held v) d bay

  pub next : (d : ℕ) (u : Bay) → In u (get_or (rings Y held v) (suc d) []) → Next d u
  unfolding inward
  next d u i =
      let r = get_or (rings Y held v) d [] in
      let s = ring-step Y held Y.bays [] (v ∷ []) d u i in
      let f = lowest-some (joined Y u) r s.0 s.1 s.2 in
      record {
        bay = f.0;
        rail = lowest-passes (joined Y u) r f.1;
        nearer = lowest-in (joined Y u) r f.1;
        found = f.1;
        goes_on = rw f.1;
      }

  -- every bay of it is in a ring that is no further out
  pub inward-in : (d : ℕ) (u : Bay) → In u (get_or (rings Y held v) d []) → (b : Bay) → In b (inward Y (rings Y held v) d u)
      → (j : ℕ) × (j ≤ d) × In b (get_or (rings Y held v) j [])
  inward-in zero u i b h = (0, omega arith, rw (In-one b u (rw inward-zero at h)) i)
  inward-in (suc d) u i b h =
      let n = next d u i in
      In-cases b u (inward Y (rings Y held v) d n.bay) (rw n.goes_on at h)
      (λ k. (suc d, omega arith, rw k i))
      (λ k. let r = inward-in d n.bay n.nearer b k in (r.0, omega arith, r.2))

  pub apart_from : (d : ℕ) (u a : Bay) → In u (get_or (rings Y held v) (suc d) []) → In a (get_or (rings Y held v) d []) → Out u (inward Y (rings Y held v) d a)
  apart_from d u a i k =
      by_cases (elem u (inward Y (rings Y held v) d a))
      (λ y. let r = inward-in d a k u y in not-both r.2 (rings-apart Y held Y.bays [] (v ∷ []) r.0 (suc d) u (omega (arith, r.1)) i))
      (λ o. o)

  inward-once : (d : ℕ) (u : Bay) → In u (get_or (rings Y held v) d []) → NoDup (inward Y (rings Y held v) d u)
  inward-once zero u i = rw inward-zero (nothing-in-nil u, tt)
  inward-once (suc d) u i =
      let n = next d u i in
      rw n.goes_on (apart_from d u n.bay i n.nearer, inward-once d n.bay n.nearer)

  module _ (free-v : Free Y held v) where
    pub around-free : (j : ℕ) (b : Bay) → In b (get_or (rings Y held v) j []) → Free Y held b
    around-free zero b i = rw (ring-zero Y held Y.bays [] v b i) free-v
    around-free (suc j) b i = (ring-free Y held Y.bays [] (v ∷ []) j b i).0

    inward-route : (d : ℕ) (u : Bay) → In u (get_or (rings Y held v) d []) → (l : List Bay) × (inward Y (rings Y held v) d u ≡ u ∷ l) × Route Y held u l v
    inward-route zero u i = ([], inward-zero Y (rings Y held v) u, ring-zero Y held Y.bays [] v u i)
    inward-route (suc d) u i =
        let n = next d u i in
        let r = inward-route d n.bay n.nearer in
        (n.bay ∷ r.0, n.goes_on ∙ ap (λ l. u ∷ l) r.1, (n.rail, around-free d n.bay n.nearer, r.2))

-- ## Lowest

module _ (Y : Yard) (held : List Bay) where
  pub route-walk : (u : Bay) (l : List Bay) (v : Bay) → Route Y held u l v → Walk Y held u (length l) v
  route-walk u [] v r = rw r here
  route-walk u (x ∷ xs) v r = walk-cons Y held r.0 r.1 (route-walk x xs v r.2)

  module _ (v : Bay) where
    -- a neighbour of ring d + 1 from which d rails lead to v is in ring d
    nearer : (d : ℕ) (u a : Bay) → Free Y held u → In u (get_or (rings Y held v) (suc d) []) → joined Y u a ≡ true → Free Y held a → Walk Y held a d v
        → In a (get_or (rings Y held v) d [])
    nearer d u a fu i e fa w =
        let h : suc d < Y.bays = rw rings_from-length at (in-ring u (rings Y held v) (suc d) i) in
        let r = walk-ring Y held Y.bays v (walk-back Y held fa w) (omega arith) in
        let t = walk-ring Y held Y.bays v (on (ring-walk Y held Y.bays v r.0 a r.2) (joined-sym Y u a e) fu) (omega (arith, r.1)) in
        by_cases (ltb r.0 d)
        (λ k. not-both t.2 (rings-apart Y held Y.bays [] (v ∷ []) t.0 (suc d) u (omega (arith, t.1, ltb-true r.0 d k)) i))
        (λ k. let same : r.0 ≡ d = omega (arith, r.1, ltb-false r.0 d k) in rw same at r.2)

    inward-lowest : (d : ℕ) (u : Bay) (l : List Bay) → Free Y held u → In u (get_or (rings Y held v) d []) → length l ≡ d → Route Y held u l v
        → NotAbove (inward Y (rings Y held v) d u) (u ∷ l)
    inward-lowest zero u [] fu i len r = rw inward-zero (inr (refl, tt))
    inward-lowest zero u (x ∷ l) fu i len r = absurd (omega arith)
    inward-lowest (suc d) u [] fu i len r = absurd (omega arith)
    inward-lowest (suc d) u (x ∷ l) fu i len r =
        let n = next Y held v d u i in
        let k : length l ≡ d = omega arith in
        let near : In x (get_or (rings Y held v) d []) = nearer d u x fu i r.0 r.1 (rw k at (route-walk x l v r.2)) in
        let low : n.bay ≤ x = lowest-least (joined Y u) (get_or (rings Y held v) d []) n.found x near r.0 in
        let rest : NotAbove (inward Y (rings Y held v) d n.bay) (x ∷ l) =
        by_cases (ltb n.bay x)
        (λ e. let t = inward-head Y (rings Y held v) d n.bay in rw t.1 (inl (ltb-true n.bay x e)))
        (λ e.
        let same : n.bay ≡ x = omega (arith, ltb-false n.bay x e) in
        rw same (inward-lowest d x l r.1 near k r.2)) in
        rw n.goes_on (inr (refl, rest))

-- ## In the document's words

both-not-above : (l m : List Bay) → length l ≡ length m → NotAbove l m → NotAbove m l → l ≡ m
both-not-above [] [] e h k = refl
both-not-above [] (b ∷ m) e h k = absurd (omega arith)
both-not-above (a ∷ l) [] e h k = absurd (omega arith)
both-not-above (a ∷ l) (b ∷ m) e h k =
    ⊎_elim
    (λ x. ⊎_elim (λ y. absurd (omega arith)) (λ y. let z = y.0 in absurd (omega arith)) k)
    (λ x. ⊎_elim
    (λ y. let z = x.0 in absurd (omega arith))
    (λ y. ap₂ (λ c t. c ∷ t) x.0 (both-not-above l m (omega arith) x.1 y.1)) k)
    h

module _ (Y : Yard) (held : List Bay) (u v : Bay) where
  -- the ways from u to v leave one list only
  pub shortest-one : (l m : List Bay) → Shortest Y held u v l → Shortest Y held u v m → l ≡ m
  shortest-one l m s t =
      let a = s.fewest m t.way in
      let b = t.fewest l s.way in
      let e : length m ≡ length l = omega arith in
      both-not-above l m (sym e) (s.lowest m t.way e) (t.lowest l s.way (sym e))

  -- where a way leads from u to v, the rings around v reach u
  pub way-reached : (l : List Bay) → Way Y held u l v → In u (nearest_first Y held v)
  way-reached l w =
      let walk = route-walk Y held u w.rest v w.route in
      enough Y held v (walk-free Y held w.free walk) (walk-back Y held w.free walk)

  module _ (free-u : Free Y held u) (free-v : Free Y held v) where
    pub shortest-path : In u (nearest_first Y held v) → Shortest Y held u v (shortest_path Y held u v)
    unfolding shortest_path
    shortest-path i =
        let rs = rings Y held v in
        let d = ring_of Y u rs in
        let at : In u (get_or rs d []) = distance-in Y u rs i in
        let r = inward-route Y held v free-v d u at in
        let n = inward-length Y rs d u in
        let few : (m : List Bay) → Way Y held u m v → suc d ≤ length m =
        λ m w.
        let k : length m ≡ suc (length w.rest) = ap length w.starts in
        by_cases (ltb (length w.rest) Y.bays)
        (λ e.
        let t = walk-ring Y held Y.bays v (walk-back Y held free-u (route-walk Y held u w.rest v w.route)) (ltb-true _ _ e) in
        omega (arith, distance_least Y u rs t.0 t.2, t.1))
        (λ e.
        let b : d < Y.bays = rw rings_from-length at (in-ring u rs d at) in
        omega (arith, ltb-false (length w.rest) Y.bays e)) in
        record {
          way = record { rest = r.0; starts = r.1; free = free-u; route = r.2 };
          once = inward-once Y held v d u at;
          fewest = λ m w. let f = few m w in omega arith;
          lowest = λ m w e.
              let k : length m ≡ suc (length w.rest) = ap length w.starts in
              rw w.starts (inward-lowest Y held v d u w.rest free-u at (omega arith) w.route);
        }

    -- There is an answer exactly if there is a way, and it is the shortest one.
    pub path-exactly : (l : List Bay) → (path_between Y held u v ≡ some l) ↔ Shortest Y held u v l
    unfolding path_between
    path-exactly l = (
      λ h. let k = some-when (elem u (nearest_first Y held v)) (shortest_path Y held u v) h in rw k.1 at (shortest-path k.0),
      λ s.
          let i = way-reached l s.way in
          rw i (ap some (shortest-one (shortest_path Y held u v) l (shortest-path i) s)),
    )

    pub no-path-exactly : (path_between Y held u v ≡ none) ↔ ((l : List Bay) → Way Y held u l v → ⊥)
    unfolding path_between
    no-path-exactly = (
      λ h l w. not-both (way-reached l w) (none-when (elem u (nearest_first Y held v)) (shortest_path Y held u v) h),
      λ f. by_cases (elem u (nearest_first Y held v)) (λ i. absurd (f _ (shortest-path i).way)) (λ o. rw o),
    )

-- ## For code: in a rising list the lowest that passes is the first

unfoldable pub Rising : List ℕ → Type 0
Rising [] = Unit {0}
Rising (x ∷ xs) = ((y : ℕ) → In y xs → x < y) × Rising xs

rising-count : (a k : ℕ) → Rising (count_from a k)
unfolding Rising count_from
rising-count a zero = tt
rising-count a (suc k) = (λ y i. let l = count_low (suc a) k y i in omega arith, rising-count (suc a) k)

rising-filter : (q : ℕ → Bool) (xs : List ℕ) → Rising xs → Rising (filter q xs)
unfolding Rising filter
rising-filter q [] r = tt
rising-filter q (x ∷ xs) r =
    by_cases (q x)
    (λ e. rw e (λ y i. r.0 y (filter-in q xs y i), rising-filter q xs r.1))
    (λ e. rw e (rising-filter q xs r.1))

-- what is found in a rising list is the lowest that passes
pub find-lowest : (q : ℕ → Bool) (xs : List ℕ) (y a : ℕ) → Rising xs → find q xs ≡ some y → In a xs → q a ≡ true → y ≤ a
unfolding Rising find
find-lowest q [] y a r e i h = In-nil a i
find-lowest q (x ∷ xs) y a r e i h =
    by_cases (q x)
    (λ k. let z : x ≡ y = let w = rw k at e in cc in
    In-cases a x xs i (λ d. omega arith) (λ d. let l = r.0 a d in omega arith))
    (λ k. In-cases a x xs i (λ d. not-both (rw d at h) k) (λ d. find-lowest q xs y a r.1 (rw k at e) d h))

module _ (Y : Yard) (held : List Bay) where
  rising-from : (k : ℕ) (seen ring : List Bay) (d : ℕ) → Rising ring → Rising (get_or (rings_from Y held k seen ring) d [])
  unfolding rings_from next_ring without
  rising-from zero seen ring d r = unfold Rising in tt
  rising-from (suc k) seen ring zero r = r
  rising-from (suc k) seen ring (suc d) r = rising-from k (ring ++ seen) _ d (rising-filter _ _ (rising-filter _ _ (rising-count 0 Y.bays)))

  pub rings-rise : (x : Bay) (d : ℕ) → Rising (get_or (rings Y held x) d [])
  rings-rise x d = rising-from Y.bays [] (x ∷ []) d (unfold Rising in (λ y j. In-nil y j, tt))
