-- As many rings as there are bays are enough: each ring that is not empty uses up a bay, so whatever can be reached at all is
-- in one of them.
use mathlib.Core.Path.{◌≡◌, refl, ap}
use mathlib.Core.Bool.{Bool, true, false, not}
use mathlib.Core.Logic.{◌⊎◌, inl, inr, ⊎_elim}
use mathlib.Core.List.{List, [], ◌∷◌, ◌++◌}
use Prim.Native.Nat.{ℕ, zero, suc, ◌<◌, ◌≤◌}
use native.Mathlib.Omega.{arith}
use lib.ListN.{length}
use borrow.Author.Tests.{not-true}
use Rattle.paper.specs.Basics.{without, filter, any, concat, elem, count_from, up_to, In, Out}
use Rattle.paper.specs.Yard.{Bay, Yard, joined}
use Rattle.paper.specs.Path.{next_ring, rings_from, nearest_first, Free, unseen}
use Rattle.paper.proofs.Tests.{by_cases}
use Rattle.paper.proofs.Members.{count-high, in_count, nothing-in-nil, In-head, In-cases, In-nil, In-append, In-append-left, In-append-right, Out-append, filter-in, filter_passes, in-filter, any_of, Out-left, Out-right}
use Rattle.paper.proofs.Rings.{free-unseen, joined-sym, Walk, here, on, walk-back, reached-walk}

by-list : {A P : Type 0} (l : List A) → (l ≡ [] → P) → ((x : A) (xs : List A) → l ≡ x ∷ xs → P) → P
by-list [] f g = f refl
by-list (x ∷ xs) f g = g x xs refl

module _ (q q' : ℕ → Bool) (weaker : (x : ℕ) → q' x ≡ true → q x ≡ true) where
  filter-le : (xs : List ℕ) → length (filter q' xs) ≤ length (filter q xs)
  unfolding filter
  filter-le [] = omega arith
  filter-le (x ∷ xs) =
      let ih = filter-le xs in
      by_cases (q' x)
      (λ e. rw (e, weaker x e) (omega arith))
      (λ e. by_cases (q x) (λ k. rw (e, k) (omega arith)) (λ k. rw (e, k) ih))

  -- one member fewer passes
  filter-lt : (xs : List ℕ) (z : ℕ) → In z xs → q z ≡ true → q' z ≡ false → length (filter q' xs) < length (filter q xs)
  unfolding filter
  filter-lt [] z i h k = In-nil z i
  filter-lt (x ∷ xs) z i h k =
      In-cases z x xs i
      (λ e. let le = filter-le xs in rw (rw e at h, rw e at k) (omega arith))
      (λ j.
      let ih = filter-lt xs z j h k in
      by_cases (q' x)
      (λ e. rw (e, weaker x e) (omega arith))
      (λ e. by_cases (q x) (λ d. rw (e, d) (omega arith)) (λ d. rw (e, d) ih)))

filter-all : (xs : List ℕ) → length (filter (λ x. true) xs) ≡ length xs
unfolding filter
filter-all [] = refl
filter-all (x ∷ xs) = ap suc (filter-all xs)

pub filter_none : (xs : List ℕ) → filter (λ x. false) xs ≡ []
unfolding filter
filter_none [] = refl
filter_none (x ∷ xs) = filter_none xs

pub count-length : (a k : ℕ) → length (count_from a k) ≡ k
unfolding count_from
count-length a zero = refl
count-length a (suc k) = ap suc (count-length (suc a) k)

module _ (Y : Yard) (held : List Bay) where
  -- how many bays are neither held nor in the list
  left : List Bay → ℕ
  left seen = length (unseen Y held seen)

  left-shrinks : (seen more : List Bay) (z : Bay) → In z more → In z (unseen Y held seen) → left (more ++ seen) < left seen
  unfolding left without
  left-shrinks seen more z i k =
      filter-lt (λ y. not (elem y (held ++ seen))) (λ y. not (elem y (held ++ (more ++ seen))))
      (λ x h.
      let o = not-true (elem x (held ++ (more ++ seen))) h in
      ap not (Out-append x held seen (Out-left x held (more ++ seen) o) (Out-right x more seen (Out-right x held (more ++ seen) o))))
      (up_to Y.bays) z
      (filter-in (λ y. not (elem y (held ++ seen))) (up_to Y.bays) z k)
      (filter_passes (λ y. not (elem y (held ++ seen))) (up_to Y.bays) z k)
      (ap not (In-append-right z held (more ++ seen) (In-append-left z more seen i)))

  next-empty : (seen : List Bay) → next_ring Y held seen [] ≡ []
  unfolding next_ring any
  next-empty seen = filter_none (unseen Y held seen)

  -- an empty ring has nothing behind it
  no_more : (k : ℕ) (seen : List Bay) (w : Bay) → In w (concat (rings_from Y held k seen [])) → ⊥
  unfolding rings_from concat
  no_more zero seen w i = In-nil w i
  no_more (suc k) seen w i = no_more k seen w (rw (next-empty seen) at i)

  in-next : (seen ring : List Bay) (w b : Bay) → In w ring → joined Y w b ≡ true → Free Y held b → Out b seen → In b (next_ring Y held seen ring)
  unfolding next_ring
  in-next seen ring w b i e f o =
      in-filter (λ c. any (joined Y c) ring) (unseen Y held seen) b
      (free-unseen Y held seen b f o)
      (any_of (joined Y b) ring w i (joined-sym Y w b e))

  next-in : (seen ring : List Bay) (b : Bay) → In b (next_ring Y held seen ring) → In b (unseen Y held seen)
  unfolding next_ring
  next-in seen ring b i = filter-in (λ c. any (joined Y c) ring) (unseen Y held seen) b i

  some_left : (seen : List Bay) (b : Bay) → In b (unseen Y held seen) → 0 < left seen
  unfolding left
  some_left seen b i = by-list (unseen Y held seen) (λ e. In-nil b (rw e at i)) (λ x xs e. rw e (omega arith))

  first-of-rings : (k : ℕ) (seen ring : List Bay) (b : Bay) → In b ring → 0 < k → In b (concat (rings_from Y held k seen ring))
  unfolding rings_from concat
  first-of-rings zero seen ring b i h = absurd (omega arith)
  first-of-rings (suc k) seen ring b i h = In-append-left b ring _ i

  -- fewer than n are left once x is seen
  few : (x : Bay) → In x (up_to Y.bays) → Out x held → left (x ∷ []) < Y.bays
  unfolding left without
  few x i o =
      let l = filter-lt (λ y. true) (λ y. not (elem y (held ++ (x ∷ [])))) (λ y h. refl) (up_to Y.bays) x i refl
      (ap not (In-append-right x held (x ∷ []) (In-head x []))) in
      omega (arith, filter-all (up_to Y.bays), count-length 0 Y.bays)

  start : (x : Bay) → In x (up_to Y.bays) → In x (nearest_first Y held x)
  start x i = first-of-rings Y.bays [] (x ∷ []) x (In-head x []) (let h = count-high 0 Y.bays x i in omega arith)

  -- With more rings than bays are left, the bays in them are closed under free neighbours.
  closed-from : (k : ℕ) (seen ring : List Bay) (w b : Bay) → left (ring ++ seen) < k → In w (concat (rings_from Y held k seen ring))
      → joined Y w b ≡ true → Free Y held b → In b seen ⊎ In b (concat (rings_from Y held k seen ring))
  unfolding rings_from concat
  closed-from zero seen ring w b h i e f = absurd (omega arith)
  closed-from (suc k) seen ring w b h i e f =
      let now = ring ++ seen in
      let further = next_ring Y held now ring in
      let rest = concat (rings_from Y held k now further) in
      let seen-now : In b now → In b seen ⊎ In b (ring ++ rest) =
      λ y. In-append b ring seen y (λ r. inr (In-append-left b ring rest r)) inl in
      In-append w ring rest i
      (λ r. by_cases (elem b now) seen-now
      (λ o. inr (In-append-right b ring rest (first-of-rings k now further b (in-next now ring w b r e f o)
      (let z = some_left now b (next-in now ring b (in-next now ring w b r e f o)) in omega arith)))))
      (λ r. by-list further
      (λ z. absurd (no_more k now w (rw z at r)))
      (λ x xs z.
      let x-in : In x further = rw z (In-head x xs) in
      let shrinks = left-shrinks now further x x-in (next-in now ring x x-in) in
      ⊎_elim seen-now (λ y. inr (In-append-right b ring rest y)) (closed-from k now further w b (omega arith) r e f)))

  closed : (x w b : Bay) → In x (up_to Y.bays) → Out x held → In w (nearest_first Y held x) → joined Y w b ≡ true → Free Y held b → In b (nearest_first Y held x)
  closed x w b ix ox i e f = ⊎_elim (λ y. In-nil b y) (λ y. y) (closed-from Y.bays [] (x ∷ []) w b (few x ix ox) i e f)

  -- whatever a walk of any length reaches is reached
  pub enough : (x : Bay) → Free Y held x → {d : ℕ} {b : Bay} → Walk Y held x d b → In b (nearest_first Y held x)
  enough x fx here = start x fx.0
  enough x fx (on {w = w} {v = v} r e f) = closed x w v fx.0 fx.1 (enough x fx r) e f

-- Where every bay is reached from one, every bay is reached from every other.
walk-join : (Y : Yard) (held : List Bay) {u v w : Bay} {d e : ℕ} → Walk Y held u d v → Walk Y held v e w → (k : ℕ) × Walk Y held u k w
walk-join Y held {d = d} a here = (d, a)
walk-join Y held a (on r e f) = let t = walk-join Y held a r in (suc t.0, on t.1 e f)

pub connected : (Y : Yard) → ((b : Bay) → In b (up_to Y.bays) → In b (nearest_first Y [] 0)) → (a b : Bay) → In a (up_to Y.bays) → In b (up_to Y.bays) → In a (nearest_first Y [] b)
connected Y all a b ia ib =
    let fb : Free Y [] b = (ib, nothing-in-nil b) in
    let f0 : Free Y [] 0 = (in_count 0 Y.bays 0 (omega arith) (let h = count-high 0 Y.bays b ib in omega arith), nothing-in-nil 0) in
    let wa = reached-walk Y [] 0 a (all a ia) in
    let wb = reached-walk Y [] 0 b (all b ib) in
    enough Y [] b fb (walk-join Y [] (walk-back Y [] f0 wb.2) wa.2).1
