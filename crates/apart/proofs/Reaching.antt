-- What is seen is reached, since each ring is beside the one before; what is reached is seen, since what is seen is closed under rails
-- but for the last ring, and a bay d rails off is seen after d rings.
use mathlib.Core.Path.{◌≡◌, sym, ap, ◌∙◌}
use mathlib.Core.Bool.{Bool, true, false, not}
use mathlib.Core.List.{List, []}
use mathlib.Core.Option.{none, some}
use Prim.Native.Nat.{ℕ, zero, suc, ◌+◌, ◌≤◌, ◌<◌}
use native.Mathlib.Omega.{arith}
use lib.Dec.{eqb}
use borrow.Author.Tests.{eqb-true, not-true, not-false}
use Rattle.paper.specs.Basics.{◌and◌, ◌or◌, elem, find, up_to, In}
use Rattle.paper.specs.Yard.{Bay, Yard, joined}
use Rattle.paper.specs.Path.{nearest_first, Free}
use Rattle.paper.specs.Docket.{apart_bay}
use Rattle.paper.proofs.Tests.{by_cases, not-both, and_left, and_right, and_both, or_left, or_right, or_cases}
use Rattle.paper.proofs.Members.{in_count, count-high, nothing-in-nil, find-exactly, none-find}
use Rattle.paper.proofs.Rings.{Walk, here, on, walk-free, reached-walk}
use Rattle.paper.proofs.Reach.{enough}
use Rattle.words.specs.Sets.{mem, span, Lowest, Settled, Beside, reaches}
use Rattle.words.proofs.Besides.{equal-tests, any_below-some, any_below-of}
use Rattle.first_bad.specs.Table.{Table}
use Rattle.apart.specs.Reaching.{Closed, Reaches}

-- after d rings, of which the last is `ring`
pub record Seeing (Y : Yard) (d : ℕ) (seen ring : List ℕ) : Type 0 where
  pub sound : (b : Bay) → b < span → mem seen b ≡ true → In b (nearest_first Y [] 0)
  pub near : (e : ℕ) (b : Bay) → Walk Y [] 0 e b → e ≤ d → mem seen b ≡ true
  pub edge : (b : Bay) → b < span → mem ring b ≡ true → mem seen b ≡ true
  pub closed : (a b : Bay) → a < span → b < span → mem seen a ≡ true → mem ring a ≡ false → joined Y a b ≡ true → mem seen b ≡ true

module _ (Y : Yard) (n : ℕ) (table : List ℕ) (some_bay : 0 < n) (most : n ≤ span) (t : Table Y n table) where
  free-bay : (b : Bay) → b < n → Free Y [] b
  free-bay b h = (in_count 0 Y.bays b (omega arith) (rw t.bays (omega arith)), nothing-in-nil b)

  walk-low : {e : ℕ} {b : Bay} → Walk Y [] 0 e b → b < n
  walk-low {b = b} w =
      let k = count-high 0 Y.bays b (walk-free Y [] (free-bay 0 some_bay) w).0 in omega (arith, t.bays)

  -- one rail more from a reached bay
  rail-reached : (a b : Bay) → In a (nearest_first Y [] 0) → joined Y a b ≡ true → In b (nearest_first Y [] 0)
  rail-reached a b i j =
      enough Y [] 0 (free-bay 0 some_bay) (on (reached-walk Y [] 0 a i).2 j (free-bay b (t.inside a b j).1))

  only_zero : (fresh ws : List ℕ) → ((x : ℕ) → mem fresh x ≡ false) → ((x : ℕ) → mem ws x ≡ mem fresh x or eqb x 0) → (b : Bay) → mem ws b ≡ eqb b 0
  unfolding ◌or◌
  only_zero fresh ws z h b = h b ∙ rw (z b)

  pub seeing-first : (fresh₁ seen fresh₂ ring : List ℕ) → ((x : ℕ) → mem fresh₁ x ≡ false) → ((x : ℕ) → mem seen x ≡ mem fresh₁ x or eqb x 0)
      → ((x : ℕ) → mem fresh₂ x ≡ false) → ((x : ℕ) → mem ring x ≡ mem fresh₂ x or eqb x 0) → Seeing Y 0 seen ring
  seeing-first fresh₁ seen fresh₂ ring z₁ s z₂ r =
      let is_seen = only_zero fresh₁ seen z₁ s in
      let is-ring = only_zero fresh₂ ring z₂ r in
      let first : mem seen 0 ≡ true = is_seen 0 in
      record {
        sound = λ b h m. rw (eqb-true b 0 (sym (is_seen b) ∙ m)) (enough Y [] 0 (free-bay 0 some_bay) here);
        near = λ e b w h. start e b w h first;
        edge = λ b h m. is_seen b ∙ sym (is-ring b) ∙ m;
        closed = λ a b h k m o j. not-both (is-ring a ∙ sym (is_seen a) ∙ m) o;
      }
    where
      start : (e : ℕ) (b : Bay) → Walk Y [] 0 e b → e ≤ 0 → mem seen 0 ≡ true → mem seen b ≡ true
      start zero b here h m = m
      start (suc e) b w h m = absurd (omega arith)

  module _ (d : ℕ) (seen ring next seen' ring' : List ℕ) (s : Seeing Y d seen ring) (p : Beside table ring next span) (q : Settled next seen seen' ring') where
    -- what was seen is seen still, and what is beside it is seen now
    kept : (b : Bay) → b < span → mem seen b ≡ true → mem seen' b ≡ true
    kept b h m = q.all_seen b h ∙ or_left _ _ m

    rail-seen : (a b : Bay) → a < n → b < n → mem seen a ≡ true → joined Y a b ≡ true → mem seen' b ≡ true
    rail-seen a b ha hb m j =
        by_cases (mem ring a)
        (λ r.
        let beside : mem next b ≡ true =
        p.same b (omega arith) ∙ any_below-of (reaches table ring b) span a (omega arith) (and_both _ _ r (t.same a b ha (omega arith) ∙ j)) in
        by_cases (mem seen b)
        (λ e. kept b (omega arith) e)
        (λ e. q.all_seen b (omega arith) ∙ or_right _ _ (q.ringed b (omega arith) ∙ and_both _ _ beside (ap not e))))
        (λ r. kept b (omega arith) (s.closed a b (omega arith) (omega arith) m r j))

    ring-reached : (b : Bay) → b < span → mem ring' b ≡ true → In b (nearest_first Y [] 0)
    ring-reached b h m =
        let k = any_below-some (reaches table ring b) span (sym (p.same b h) ∙ and_left _ _ (sym (q.ringed b h) ∙ m)) in
        let a : ℕ = k.0 in
        let i = s.sound a k.1 (s.edge a k.1 (and_left _ _ k.2)) in
        let ha : a < n = walk-low (reached-walk Y [] 0 a i).2 in
        rail-reached a b i (sym (t.same a b ha h) ∙ and_right _ _ k.2)

    nearer : (e : ℕ) (b : Bay) → Walk Y [] 0 e b → e ≤ d + 1 → mem seen' b ≡ true
    nearer zero b here h = kept 0 (omega arith) (s.near 0 0 here (omega arith))
    nearer (suc e) b (on {w = w} r j f) h =
        rail-seen w b (walk-low r) (t.inside w b j).1 (s.near e w r (omega arith)) j

    pub seeing-more : Seeing Y (d + 1) seen' ring'
    seeing-more = record {
      sound = λ b h m. or_cases _ _ (sym (q.all_seen b h) ∙ m) (λ e. s.sound b h e) (λ e. ring-reached b h e);
      near = nearer;
      edge = λ b h m. q.all_seen b h ∙ or_right _ _ m;
      closed = λ a b h k m o j.
          or_cases _ _ (sym (q.all_seen a h) ∙ m)
          (λ e. rail-seen a b (t.inside a b j).0 (t.inside a b j).1 e j)
          (λ e. not-both e o);
    }

  module _ (d : ℕ) (seen ring : List ℕ) (s : Seeing Y d seen ring) where
    -- with no ring left, what is seen is closed under rails
    walk-seen : ((b : Bay) → b < span → mem ring b ≡ false) → (e : ℕ) (b : Bay) → Walk Y [] 0 e b → mem seen b ≡ true
    walk-seen dry e b here = s.near 0 0 here (omega arith)
    walk-seen dry (suc e) b (on {w = w} r j f) =
        let low = walk-low r in
        let high = (t.inside w b j).1 in
        s.closed w b (omega arith) (omega arith) (walk-seen dry e w r) (dry w (omega arith)) j

    pub seen-dry : (r : ℕ) → Lowest (mem ring) 0 span r → r ≡ span → (b : Bay) → b < span → mem seen b ≡ elem b (nearest_first Y [] 0)
    seen-dry r l e b h =
        equal-tests _ _ (s.sound b h)
        (λ i. let w = reached-walk Y [] 0 b i in walk-seen (λ c k. l.before c (omega arith) (omega arith)) w.0 b w.2)

    pub seen_all : n ≤ d → (b : Bay) → b < span → mem seen b ≡ elem b (nearest_first Y [] 0)
    seen_all enough-rings b h =
        equal-tests _ _ (s.sound b h)
        (λ i. let w = reached-walk Y [] 0 b i in s.near w.0 b w.2 (omega (arith, w.1, t.bays)))

-- ---- the rings stay among the n bays, and so have their rows in the table

-- every bay of the set is one of the n
abbrev pub Low : ℕ → List ℕ → Type 0
Low n set = (b : Bay) → b < span → mem set b ≡ true → b < n

pub low_first : (n : ℕ) (fresh ring : List ℕ) → 0 < n → ((x : ℕ) → mem fresh x ≡ false) → ((x : ℕ) → mem ring x ≡ mem fresh x or eqb x 0) → Low n ring
low_first n fresh ring some_bay z r b h m =
    or_cases _ _ (sym (r b) ∙ m) (λ e. not-both e (z b)) (λ e. omega (arith, eqb-true b 0 e))

pub low-more : (n : ℕ) (table ring next seen seen' ring' : List ℕ) → Closed n table → Low n ring → Beside table ring next span
    → Settled next seen seen' ring' → Low n ring'
low-more n table ring next seen seen' ring' closed low p q b h m =
    let k = any_below-some (reaches table ring b) span (sym (p.same b h) ∙ and_left _ _ (sym (q.ringed b h) ∙ m)) in
    closed.inside k.0 b (low k.0 k.1 (and_left _ _ k.2)) h (and_right _ _ k.2)

-- ---- the lowest bay that is not seen

module _ (Y : Yard) (n : ℕ) (table seen : List ℕ) (most : n ≤ span) (r : Reaches n table seen) (t : Table Y n table) (lowest : ℕ)
    (out : lowest < n → mem seen lowest ≡ false) (below : (k : Bay) → k < n → k < lowest → mem seen k ≡ true) where
  abbrev unreached : Bay → Bool
  unreached x = not (elem x (nearest_first Y [] 0))

  unseen : (x : Bay) → x < n → unreached x ≡ not (mem seen x)
  unseen x h = ap not (sym (r.same Y t x (omega arith)))

  pub apart-there : lowest < n → apart_bay Y ≡ some lowest
  unfolding apart_bay
  apart-there h =
      ap (λ m. find unreached (up_to m)) t.bays
      ∙ (find-exactly unreached n lowest).1 (h, unseen lowest h ∙ ap not (out h), λ k j. unseen k (omega arith) ∙ ap not (below k (omega arith) j))

  pub apart-nowhere : n ≤ lowest → apart_bay Y ≡ none
  unfolding apart_bay
  apart-nowhere h =
      ap (λ m. find unreached (up_to m)) t.bays
      ∙ none-find unreached (up_to n) (λ k i. let z = count-high 0 n k i in unseen k (omega arith) ∙ ap not (below k (omega arith) (omega arith)))

-- the lowest of those that are left where what is seen was taken from all
module _ (all seen left : List ℕ) (whole : (x : Bay) → x < span → mem all x ≡ true) (taken : (x : ℕ) → mem left x ≡ mem all x and not (mem seen x))
    (lowest : ℕ) (l : Lowest (mem left) 0 span lowest) where
  rest : (x : Bay) → x < span → mem left x ≡ not (mem seen x)
  unfolding ◌and◌
  rest x h = taken x ∙ rw (whole x h)

  pub left_out : lowest < span → mem seen lowest ≡ false
  left_out h = not-true _ (sym (rest lowest h) ∙ l.hit h)

  pub left_in : (k : Bay) → k < lowest → mem seen k ≡ true
  left_in k h = not-false _ (sym (rest k (omega (arith, l.upto))) ∙ l.before k (omega arith) h)
