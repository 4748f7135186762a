-- The rings around a bay are right: what is in ring d is d rails away, and what is d rails away is in a ring up to d.
use mathlib.Core.Path.{◌≡◌, refl, ◌∙◌, ap}
use mathlib.Core.Bool.{Bool, true, false}
use mathlib.Core.List.{List, [], ◌∷◌, ◌++◌}
use Prim.Native.Nat.{ℕ, zero, suc, ◌≤◌, ◌<◌}
use native.Mathlib.Omega.{arith}
use lib.ListN.{get_or, length}
use mathlib.Core.Logic.{◌⊎◌, inl, inr, ⊎_elim}
use mathlib.Core.Option.{none, some}
use Rattle.paper.specs.Basics.{◌and◌, any, concat, elem, up_to, In, Out, first_of}
use Rattle.paper.specs.Yard.{Bay, Yard, joined}
use Rattle.paper.specs.Path.{choice, next_ring, rings_from, rings, nearest_first, ring_of, Free, unseen}
use Rattle.paper.proofs.Tests.{by_cases, not-both, and_left, and_right, and_both, or_left, or_right, or_cases, by-option, never-some, none_both}
use Rattle.paper.proofs.Members.{In-nil, In-one, In-append, In-append-left, In-append-right, filter_passes, any_some, In-head, Out-append, filter-in, in-filter, any_of, without_in, without-out, in_without, Out-left, Out-right}
use Rattle.paper.proofs.Choosing.{Chosen, choice-none, choice-chosen, chosen-choice, none-choice}

pub any-weaker : {A : Type 0} (q q' : A → Bool) → ((x : A) → q x ≡ true → q' x ≡ true) → (xs : List A) → any q xs ≡ true → any q' xs ≡ true
unfolding any
any-weaker q q' f [] e = e
any-weaker q q' f (x ∷ xs) e =
    by_cases (q x)
    (λ h. rw (f x h))
    (λ h. by_cases (q' x) (λ k. rw k) (λ k. rw k (any-weaker q q' f xs (rw h at e))))

and_comm : (a b : Bool) → a and b ≡ true → b and a ≡ true
and_comm a b e = and_both b a (and_right a b e) (and_left a b e)

module _ (Y : Yard) where
  pub joined-sym : (a b : Bay) → joined Y a b ≡ true → joined Y b a ≡ true
  unfolding joined
  joined-sym a b e =
      any-weaker _ _
      (λ r h. or_cases _ _ h (λ k. or_right _ _ (and_comm _ _ k)) (λ k. or_left _ _ (and_comm _ _ k)))
      Y.rails e

  module _ (held : List Bay) where
    -- a bay of a ring has a neighbour in the ring before
    pub ring-step : (k : ℕ) (seen ring : List Bay) (d : ℕ) (u : Bay)
        → In u (get_or (rings_from Y held k seen ring) (suc d) [])
        → (a : Bay) × In a (get_or (rings_from Y held k seen ring) d []) × (joined Y u a ≡ true)
    unfolding rings_from next_ring
    ring-step zero seen ring d u i = In-nil u i
    ring-step (suc zero) seen ring zero u i = In-nil u i
    ring-step (suc (suc k)) seen ring zero u i =
        any_some (joined Y u) ring (filter_passes _ (unseen Y held (ring ++ seen)) u i)
    ring-step (suc k) seen ring (suc d) u i = ring-step k (ring ++ seen) (next_ring Y held (ring ++ seen) ring) d u i

    pub ring-zero : (k : ℕ) (seen : List Bay) (v u : Bay) → In u (get_or (rings_from Y held k seen (v ∷ [])) 0 []) → u ≡ v
    unfolding rings_from
    ring-zero zero seen v u i = In-nil u i
    ring-zero (suc k) seen v u i = In-one u v i

  -- a bay that is in some ring is in the ring that `ring_of` says
  pub distance-in : (u : Bay) (rs : List (List Bay)) → In u (concat rs) → In u (get_or rs (ring_of Y u rs) [])
  unfolding ring_of concat
  distance-in u [] h = h
  distance-in u (r ∷ rs) h =
      by_cases (elem u r) (λ e. rw e e) (λ e. rw e (distance-in u rs (In-append u r (concat rs) h (λ k. not-both k e) (λ k. k))))

  pub in-concat : (u : Bay) (rs : List (List Bay)) (d : ℕ) → In u (get_or rs d []) → In u (concat rs)
  unfolding concat
  in-concat u [] d i = In-nil u i
  in-concat u (r ∷ rs) zero i = In-append-left u r (concat rs) i
  in-concat u (r ∷ rs) (suc d) i = In-append-right u r (concat rs) (in-concat u rs d i)

  pub distance_least : (u : Bay) (rs : List (List Bay)) (d : ℕ) → In u (get_or rs d []) → ring_of Y u rs ≤ d
  unfolding ring_of
  distance_least u [] d i = In-nil u i
  distance_least u (r ∷ rs) zero i = rw i (omega arith)
  distance_least u (r ∷ rs) (suc d) i =
      let h = distance_least u rs d i in
      by_cases (elem u r) (λ e. rw e (omega arith)) (λ e. rw e (omega arith))

module _ (Y : Yard) (held : List Bay) where
  -- v is d rails from u, each bay after u free
  pub data Walk (u : Bay) : ℕ → Bay → Type 0 where
    here : Walk u 0 u
    on : {d : ℕ} {w v : Bay} → Walk u d w → joined Y w v ≡ true → Free Y held v → Walk u (suc d) v

  -- what is neither held nor seen is free, and the other way round
  pub unseen-free : (seen : List Bay) (b : Bay) → In b (unseen Y held seen) → Free Y held b × Out b seen
  unseen-free seen b i =
      let o = without-out _ (up_to Y.bays) b i in
      ((without_in _ (up_to Y.bays) b i, Out-left b held seen o), Out-right b held seen o)

  pub free-unseen : (seen : List Bay) (b : Bay) → Free Y held b → Out b seen → In b (unseen Y held seen)
  free-unseen seen b f o = in_without (held ++ seen) (up_to Y.bays) b f.0 (Out-append b held seen f.1 o)

  -- a later ring holds free bays only, none seen before
  pub ring-free : (k : ℕ) (seen ring : List Bay) (d : ℕ) (b : Bay) → In b (get_or (rings_from Y held k seen ring) (suc d) []) → Free Y held b × Out b (ring ++ seen)
  unfolding rings_from next_ring
  ring-free zero seen ring d b i = In-nil b i
  ring-free (suc zero) seen ring zero b i = In-nil b i
  ring-free (suc (suc k)) seen ring zero b i =
      unseen-free (ring ++ seen) b (filter-in _ (unseen Y held (ring ++ seen)) b i)
  ring-free (suc k) seen ring (suc d) b i =
      let r = ring-free k (ring ++ seen) (next_ring Y held (ring ++ seen) ring) d b i in
      (r.0, Out-right b (next_ring Y held (ring ++ seen) ring) (ring ++ seen) r.1)

  -- no bay is in two rings
  pub rings-apart : (k : ℕ) (seen ring : List Bay) (i j : ℕ) (b : Bay) → i < j
      → In b (get_or (rings_from Y held k seen ring) j []) → Out b (get_or (rings_from Y held k seen ring) i [])
  unfolding rings_from
  rings-apart zero seen ring i j b h h' = In-nil b h'
  rings-apart (suc k) seen ring i zero b h h' = absurd (omega arith)
  rings-apart (suc k) seen ring zero (suc j) b h h' = Out-left b ring seen (ring-free (suc k) seen ring j b h').1
  rings-apart (suc k) seen ring (suc i) (suc j) b h h' =
      rings-apart k (ring ++ seen) (next_ring Y held (ring ++ seen) ring) i j b (omega arith) h'

  -- what is in ring d is d rails away
  pub ring-walk : (k : ℕ) (x : Bay) (d : ℕ) (b : Bay) → In b (get_or (rings_from Y held k [] (x ∷ [])) d []) → Walk x d b
  ring-walk k x zero b i = rw (ring-zero Y held k [] x b i) here
  ring-walk k x (suc d) b i =
      let s = ring-step Y held k [] (x ∷ []) d b i in
      on (ring-walk k x d s.0 s.1) (joined-sym Y b s.0 s.2) (ring-free k [] (x ∷ []) d b i).0

  -- a free neighbour of a bay in ring d is seen, or in a ring up to d + 1
  ring-grow : (k : ℕ) (seen ring : List Bay) (d : ℕ) (w b : Bay) → suc d < k → In w (get_or (rings_from Y held k seen ring) d [])
      → joined Y w b ≡ true → Free Y held b
      → In b seen ⊎ ((i : ℕ) × (i ≤ suc d) × In b (get_or (rings_from Y held k seen ring) i []))
  unfolding rings_from next_ring
  ring-grow zero seen ring d w b h i e f = absurd (omega arith)
  ring-grow (suc zero) seen ring d w b h i e f = absurd (omega arith)
  ring-grow (suc (suc k)) seen ring zero w b h i e f =
      by_cases (elem b (ring ++ seen))
      (λ y. In-append b ring seen y (λ r. inr (0, omega arith, r)) inl)
      (λ o. inr (
        1,
        omega arith,
        in-filter (λ c. any (joined Y c) ring) (unseen Y held (ring ++ seen)) b
            (free-unseen (ring ++ seen) b f o)
            (any_of (joined Y b) ring w i (joined-sym Y w b e)),
      ))
  ring-grow (suc (suc k)) seen ring (suc d) w b h i e f =
      ⊎_elim
      (λ y. In-append b ring seen y (λ r. inr (0, omega arith, r)) inl)
      (λ r. inr (suc r.0, omega arith, r.2))
      (ring-grow (suc k) (ring ++ seen) (next_ring Y held (ring ++ seen) ring) d w b (omega arith) i e f)

  -- what is d rails away is in a ring up to d, if there are so many rings
  pub walk-ring : (k : ℕ) (x : Bay) {d : ℕ} {b : Bay} → Walk x d b → d < k
      → (i : ℕ) × (i ≤ d) × In b (get_or (rings_from Y held k [] (x ∷ [])) i [])
  unfolding rings_from
  walk-ring zero x w h = absurd (omega arith)
  walk-ring (suc k) x here h = (0, omega arith, In-head x [])
  walk-ring (suc k) x (on {d = d} {w = w} {v = v} r e f) h =
      let s = walk-ring (suc k) x r (omega arith) in
      ⊎_elim
      (λ y. In-nil v y)
      (λ t. (t.0, omega arith, t.2))
      (ring-grow (suc k) [] (x ∷ []) s.0 w v (omega arith) s.2 e f)

  -- a walk with one more bay in front
  pub walk-cons : {u w v : Bay} {d : ℕ} → joined Y u w ≡ true → Free Y held w → Walk w d v → Walk u (suc d) v
  walk-cons e f here = on here e f
  walk-cons e f (on r e' f') = on (walk-cons e f r) e' f'

  pub walk-free : {u v : Bay} {d : ℕ} → Free Y held u → Walk u d v → Free Y held v
  walk-free f here = f
  walk-free f (on r e f') = f'

  -- the walk the other way
  pub walk-back : {u v : Bay} {d : ℕ} → Free Y held u → Walk u d v → Walk v d u
  walk-back f here = here
  walk-back f (on {w = w} {v = v} r e f') = walk-cons (joined-sym Y w v e) (walk-free f r) (walk-back f r)

module _ (Y : Yard) (q : Bay → Bool) where
  -- Ring by ring, the choice of what passes: it is the choice of its ring, and nothing of an earlier ring passes.
  pub record FirstRing (rs : List (List Bay)) (e : Bay) : Type 0 where
    pub ring : ℕ
    pub there : ring < length rs
    pub found : Chosen Y q (get_or rs ring []) e
    pub earlier : (j : ℕ) (b : Bay) → j < ring → In b (get_or rs j []) → q b ≡ false

  pub first-ring : (rs : List (List Bay)) {e : Bay} → first_of (choice Y q) rs ≡ some e → FirstRing rs e
  unfolding first_of
  first-ring [] {e} h = never-some e h
  first-ring (r ∷ rs) {e} h =
      by-option (choice Y q r)
      (λ k.
      let t = first-ring rs (rw k at h) in
      record {
        ring = suc t.ring;
        there = omega (arith, t.there);
        found = t.found;
        earlier = λ j. elim j as (λ k. (b : ℕ) → k < suc t.ring → In b (get_or (r ∷ rs) k []) → q b ≡ false) [ zero ↦ λ b l i. choice-none Y q r k b i | suc m ↦ λ b l i. t.earlier m b (omega arith) i ];
      })
      (λ y k.
      let n : y ≡ e = let z = rw k at h in cc in
      record { ring = 0; there = omega arith; found = choice-chosen Y q r (k ∙ ap some n); earlier = λ j b l i. absurd (omega arith) })

  -- and the other way round
  pub ring-first : (rs : List (List Bay)) (d : ℕ) {e : Bay} → Chosen Y q (get_or rs d []) e → ((i : ℕ) (b : Bay) → i < d → In b (get_or rs i []) → q b ≡ false)
      → first_of (choice Y q) rs ≡ some e
  unfolding first_of
  ring-first [] d {e} c f = In-nil e c.there
  ring-first (r ∷ rs) zero c f = rw (chosen-choice Y q r c)
  ring-first (r ∷ rs) (suc d) c f =
      rw (none-choice Y q r (λ b i. f 0 b (omega arith) i)) (ring-first rs d c (λ i b l k. f (suc i) b (omega arith) k))

  -- none where nothing of any ring passes
  pub no-ring : (rs : List (List Bay)) → first_of (choice Y q) rs ≡ none → (b : Bay) → In b (concat rs) → q b ≡ false
  unfolding first_of concat
  no-ring [] h b i = In-nil b i
  no-ring (r ∷ rs) h b i =
      let t = none_both (choice Y q r) (first_of (choice Y q) rs) h in
      In-append b r (concat rs) i (λ k. choice-none Y q r t.0 b k) (λ k. no-ring rs t.1 b k)

  pub ring-none : (rs : List (List Bay)) → ((b : Bay) → In b (concat rs) → q b ≡ false) → first_of (choice Y q) rs ≡ none
  unfolding first_of concat
  ring-none [] f = refl
  ring-none (r ∷ rs) f =
      rw (none-choice Y q r (λ b i. f b (In-append-left b r (concat rs) i))) (ring-none rs (λ b i. f b (In-append-right b r (concat rs) i)))

pub in-ring : (u : Bay) (rs : List (List Bay)) (d : ℕ) → In u (get_or rs d []) → d < length rs
in-ring u [] d i = In-nil u i
in-ring u (r ∷ rs) zero i = omega arith
in-ring u (r ∷ rs) (suc d) i = let h = in-ring u rs d i in omega arith

pub rings_from-length : (Y : Yard) (held : List Bay) (k : ℕ) (seen ring : List Bay) → length (rings_from Y held k seen ring) ≡ k
unfolding rings_from
rings_from-length Y held zero seen ring = refl
rings_from-length Y held (suc k) seen ring = ap suc (rings_from-length Y held k (ring ++ seen) (next_ring Y held (ring ++ seen) ring))

-- what is reached is fewer rails away than there are bays, and the other way round
pub reached-walk : (Y : Yard) (held : List Bay) (x b : Bay) → In b (nearest_first Y held x) → (d : ℕ) × (d < Y.bays) × Walk Y held x d b
reached-walk Y held x b i =
    let d = ring_of Y b (rings Y held x) in
    let j = distance-in Y b (rings Y held x) i in
    (d, rw rings_from-length at (in-ring b (rings Y held x) d j), ring-walk Y held Y.bays x d b j)

pub walk-reached : (Y : Yard) (held : List Bay) (x b : Bay) {d : ℕ} → Walk Y held x d b → d < Y.bays → In b (nearest_first Y held x)
walk-reached Y held x b w h = let r = walk-ring Y held Y.bays x w h in in-concat Y b (rings Y held x) r.0 r.2

pub reached-sym : (Y : Yard) (held : List Bay) (u v : Bay) → Free Y held u → In v (nearest_first Y held u) → In u (nearest_first Y held v)
reached-sym Y held u v f i =
    let r = reached-walk Y held u v i in
    walk-reached Y held v u (walk-back Y held f r.2) r.1
