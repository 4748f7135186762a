-- On a shortest path from x to e, m rails long, a bay that is i rails from x is m − i rails from e: were it nearer to either, e
-- would be nearer to x. So going back from e, the bays of ring i that stand beside those kept in ring i + 1 are exactly these.
-- Assumes nothing.
use mathlib.Core.Path.{◌≡◌, sym, ◌∙◌}
use mathlib.Core.Bool.{Bool, true}
use mathlib.Core.List.{List, [], ◌∷◌}
use Prim.Native.Nat.{ℕ, suc, ◌+◌, ◌-◌, ◌≤◌, ◌<◌}
use native.Mathlib.Decide.{dec_lt}
use native.Mathlib.Nat.{add-zero, add-suc}
use native.Mathlib.Omega.{arith}
use lib.Dec.{eqb}
use lib.ListN.{get_or}
use borrow.Author.Tests.{eqb-true, eq-eqb}
use Rattle.paper.specs.Basics.{◌and◌, elem, In}
use Rattle.paper.specs.Yard.{Bay, Yard, joined}
use Rattle.paper.specs.Path.{Free, rings, ring_of, inward, shortest_path}
use Rattle.paper.proofs.Tests.{not-both, and_left, and_right, and_both}
use Rattle.paper.proofs.Members.{In-head}
use Rattle.paper.proofs.Rings.{joined-sym, ring-step, ring-zero, in-concat, distance-in, distance_least, Walk, here, on, ring-walk, walk-ring, walk-back, walk-free, rings-apart, rings_from-length, in-ring}
use Rattle.words.specs.Sets.{mem, mem_row, span, any_below, reaches}
use Rattle.words.proofs.Besides.{equal-tests, any_below-some, any_below-of}
use Rattle.yard.specs.Table.{Table}
use Rattle.rings.specs.Search.{around}
use Rattle.rings.proofs.Searching.{ring-first, ring-inside}

walk-append : (Y : Yard) (held : List Bay) {u v w : Bay} {d k : ℕ} → Walk Y held u d v → Walk Y held v k w → Walk Y held u (d + k) w
walk-append Y held {d = d} a here = rw (add-zero d) a
walk-append Y held {d = d} a (on {d = k} r e f) = rw (add-suc d k) (on (walk-append Y held a r) e f)

-- which ring a bay is in, where it is in one
pub ring_of-is : (Y : Yard) (held : List Bay) (v u : Bay) (d : ℕ) → In u (around Y held v d) → ring_of Y u (rings Y held v) ≡ d
ring_of-is Y held v u d i =
    let rs = rings Y held v in
    let least : ring_of Y u rs ≤ d = distance_least Y u rs d i in
    let there : In u (get_or rs (ring_of Y u rs) []) = distance-in Y u rs (in-concat Y u rs d i) in
    elim (dec_lt (ring_of Y u rs) d) [
      | yes h ↦ not-both there (rings-apart Y held Y.bays [] (v ∷ []) (ring_of Y u rs) d u h i)
      | no h ↦ omega arith
    ]

module _ (Y : Yard) (held : List Bay) (x e : Bay) (m : ℕ) (free-x : Free Y held x) (there : In e (around Y held x m)) where
  fits : m < Y.bays
  fits = rw rings_from-length at (in-ring e (rings Y held x) m there)

  to : (i : ℕ) (b : Bay) → In b (around Y held x i) → Walk Y held x i b
  to i b k = ring-walk Y held Y.bays x i b k

  free-e : Free Y held e
  free-e = walk-free Y held free-x (to m e there)

  from : (i : ℕ) (b : Bay) → In b (around Y held e i) → Walk Y held b i e
  from i b k = walk-back Y held free-e (ring-walk Y held Y.bays e i b k)

  -- no way from x to e has fewer rails
  no-shorter : (i l : ℕ) (b : Bay) → Walk Y held x i b → Walk Y held b l e → m ≤ i + l
  no-shorter i l b v w = elim (dec_lt (i + l) m) [
    | yes h ↦
        let t = walk-ring Y held Y.bays x (walk-append Y held v w) (omega (arith, fits)) in
        not-both t.2 (rings-apart Y held Y.bays [] (x ∷ []) t.0 m e (omega (arith, t.1)) there)
    | no h ↦ omega arith
  ]

  -- a rail leads from b, i rails from x, to c, d rails from e: then c is one rail further from x, and b one further from e
  module _ (i d : ℕ) (sum : suc i + d ≡ m) (b c : Bay) (b-in : In b (around Y held x i)) (rail : joined Y b c ≡ true) (c-in : In c (around Y held e d)) where
    pub further : In c (around Y held x (suc i))
    further =
        let free-c : Free Y held c = walk-free Y held free-e (ring-walk Y held Y.bays e d c c-in) in
        let t = walk-ring Y held Y.bays x (on (to i b b-in) rail free-c) (omega (arith, fits)) in
        let l : m ≤ t.0 + d = no-shorter t.0 d c (to t.0 c t.2) (from d c c-in) in
        let same : t.0 ≡ suc i = omega (arith, t.1) in
        rw same at t.2

    pub behind : In b (around Y held e (suc d))
    behind =
        let free-b : Free Y held b = walk-free Y held free-x (to i b b-in) in
        let t = walk-ring Y held Y.bays e (on (ring-walk Y held Y.bays e d c c-in) (joined-sym Y b c rail) free-b) (omega (arith, fits)) in
        let l : m ≤ i + t.0 = no-shorter i t.0 b (to i b b-in) (from t.0 b t.2) in
        let same : t.0 ≡ suc d = omega (arith, t.1) in
        rw same at t.2

  -- x is m rails from e
  pub start-far : In x (around Y held e m)
  start-far =
      let t = walk-ring Y held Y.bays e (walk-back Y held free-x (to m e there)) fits in
      let l : m ≤ 0 + t.0 = no-shorter 0 t.0 x here (from t.0 x t.2) in
      let same : t.0 ≡ m = omega (arith, t.1) in
      rw same at t.2

  pub shortest-far : shortest_path Y held x e ≡ inward Y (rings Y held e) m x
  unfolding shortest_path
  shortest-far = rw (ring_of-is Y held e x m start-far)

  -- on a shortest path, i rails from x
  abbrev pub between : ℕ → Bay → Bool
  between i b = elem b (around Y held x i) and elem b (around Y held e (m - i))

  end-first : In e (around Y held e 0)
  end-first = rw (ring-first Y held e (omega (arith, fits))) (In-head e [])

  pub between-end : (b : Bay) → eqb b e ≡ between m b
  between-end b =
      let z : m - m ≡ 0 = omega arith in
      equal-tests _ _
      (λ k. let same : b ≡ e = eqb-true b e k in rw (same, z) (and_both _ _ there end-first))
      (λ k. eq-eqb b e (ring-zero Y held Y.bays [] e b (rw z at (and_right _ _ k))))

  module _ {n : ℕ} {table : List ℕ} (t : Table Y n table) (most : n ≤ span) (hx : x < n) where
    -- beside a bay kept in ring i + 1
    between-behind : (i : ℕ) → suc i ≤ m → (a b : Bay) → between (suc i) a ≡ true → joined Y a b ≡ true → In b (around Y held x i) → between i b ≡ true
    between-behind i h a b k rail b-in =
        let sum : suc i + (m - suc i) ≡ m = omega arith in
        let next : m - i ≡ suc (m - suc i) = omega arith in
        and_both (elem b (around Y held x i)) (elem b (around Y held e (m - i))) b-in
        (rw next (behind i (m - suc i) sum b a b-in (joined-sym Y a b rail) (and_right (elem a (around Y held x (suc i))) (elem a (around Y held e (m - suc i))) k)))

    -- a bay kept in ring i has one beside it in ring i + 1
    between_next : (i : ℕ) → suc i ≤ m → (b : Bay) → between i b ≡ true → (a : Bay) × (between (suc i) a ≡ true) × (joined Y b a ≡ true)
    between_next i h b k =
        let sum : suc i + (m - suc i) ≡ m = omega arith in
        let next : m - i ≡ suc (m - suc i) = omega arith in
        let b-in : In b (around Y held x i) = and_left (elem b (around Y held x i)) (elem b (around Y held e (m - i))) k in
        let far : In b (around Y held e (m - i)) = and_right (elem b (around Y held x i)) (elem b (around Y held e (m - i))) k in
        let s = ring-step Y held Y.bays [] (e ∷ []) (m - suc i) b (rw next at far) in (
          s.0,
          and_both (elem s.0 (around Y held x (suc i))) (elem s.0 (around Y held e (m - suc i))) (further i (m - suc i) sum b s.0 b-in s.2 s.1) s.1,
          s.2,
        )

    pub between-inside : (i : ℕ) (b : Bay) → between i b ≡ true → b < n
    between-inside i b k = rw t.bays at (ring-inside Y held x i b (rw t.bays hx) (and_left _ _ k))

    -- the same in words
    kept-reached : (kept : List ℕ) (i : ℕ) → suc i ≤ m → ((a : ℕ) → a < span → mem kept a ≡ between (suc i) a)
        → (b : ℕ) → b < span → In b (around Y held x i) → (a : ℕ) → a < span → reaches table kept b a ≡ true → between i b ≡ true
    kept-reached kept i h k b hb b-in a ha r =
        let a-kept : between (suc i) a ≡ true = sym (k a ha) ∙ and_left (mem kept a) (mem_row table a b) r in
        between-behind i h a b a-kept (sym (t.same a b (between-inside (suc i) a a-kept) hb) ∙ and_right (mem kept a) (mem_row table a b) r) b-in

    reached-kept : (kept : List ℕ) (i : ℕ) → ((a : ℕ) → a < span → mem kept a ≡ between (suc i) a)
        → (b : ℕ) → b < span → In b (around Y held x i) → (a : ℕ) → between (suc i) a ≡ true → joined Y b a ≡ true
        → any_below (reaches table kept b) span and elem b (around Y held x i) ≡ true
    reached-kept kept i k b hb b-in a a-kept rail =
        let a-low : a < n = between-inside (suc i) a a-kept in
        let ha : a < span = omega arith in
        and_both (any_below (reaches table kept b) span) (elem b (around Y held x i))
        (any_below-of (reaches table kept b) span a ha (and_both (mem kept a) (mem_row table a b) (k a ha ∙ a-kept) (t.same a b a-low hb ∙ joined-sym Y b a rail)))
        b-in

    -- of ring i, what stands beside those kept in ring i + 1
    pub between-beside : (kept : List ℕ) (i : ℕ) → suc i ≤ m → ((a : ℕ) → a < span → mem kept a ≡ between (suc i) a)
        → (b : ℕ) → b < span → any_below (reaches table kept b) span and elem b (around Y held x i) ≡ between i b
    between-beside kept i h k b hb =
        equal-tests (any_below (reaches table kept b) span and elem b (around Y held x i)) (between i b)
        (λ z.
        let r = any_below-some (reaches table kept b) span (and_left (any_below (reaches table kept b) span) (elem b (around Y held x i)) z) in
        kept-reached kept i h k b hb (and_right (any_below (reaches table kept b) span) (elem b (around Y held x i)) z) r.0 r.1 r.2)
        (λ z. let r = between_next i h b z in reached-kept kept i k b hb (and_left (elem b (around Y held x i)) (elem b (around Y held e (m - i))) z) r.0 r.1 r.2)
