-- Each ring is what stands beside the ring before it, neither held nor seen: so the rows that the search makes are the paper's rings.
-- Once a ring is empty all further ones are, so the search may stop there.
-- Assumes nothing.
use mathlib.Core.Path.{◌≡◌, refl, sym, ap, ◌∙◌}
use mathlib.Core.Bool.{Bool, true, false, not}
use mathlib.Core.List.{List, [], ◌∷◌, ◌++◌}
use Prim.Native.Nat.{ℕ, zero, suc, ◌+◌, ◌*◌, ◌≤◌, ◌<◌}
use native.Mathlib.Decide.{ℕ_discrete, dec_lt}
use native.Mathlib.Numerals.{add-one}
use native.Mathlib.Omega.{arith}
use lib.Dec.{eqb}
use lib.ListN.{get_or, get_or-eq_default, length}
use borrow.Author.Tests.{not-true}
use Rattle.paper.specs.Basics.{◌and◌, ◌or◌, any, filter, elem, without, up_to, In}
use Rattle.paper.specs.Yard.{Bay, Yard, joined}
use Rattle.paper.specs.Path.{next_ring, rings_from, rings}
use Rattle.paper.proofs.Tests.{by_cases, not-both, and_left, and_right, and_both, or_left, or_right, or_cases, same_test}
use Rattle.paper.proofs.Members.{In-head, In-append, In-append-left, In-append-right, filter-in, filter_passes, in-filter, any_of, any_some, without-out, in_without, count-high, in_count}
use Rattle.paper.proofs.Reach.{filter_none}
use Rattle.paper.proofs.Rings.{joined-sym, ring-zero, ring-free, rings_from-length}
use Rattle.words.specs.Sets.{mem, mem_row, Kept, Settled, span, words, any_below, reaches, Beside, members}
use Rattle.words.proofs.Sets.{row_zero}
use Rattle.words.proofs.Besides.{equal-tests, any_below-some, any_below-of}
use Rattle.yard.specs.Table.{Table}
use mathlib.Core.Logic.{⊎_elim}
use Rattle.rings.specs.Search.{NextRingSays, Shown, around, ring_on, Searched, GoesOn}
use Rattle.rings.specs.Widening.{Widened}

pub elem-append : (b : ℕ) (xs ys : List ℕ) → elem b (xs ++ ys) ≡ elem b xs or elem b ys
elem-append b xs ys =
    equal-tests _ _
    (λ i. In-append b xs ys i (λ k. or_left _ _ k) (λ k. or_right _ _ k))
    (λ i. or_cases _ _ i (λ k. In-append-left b xs ys k) (λ k. In-append-right b xs ys k))

-- ## The rings one after the other

module _ (Y : Yard) (held : List Bay) where
  -- ring d, and all bays up to ring d, counted from a ring and the bays seen before it
  unfoldable pub ring_from : ℕ → List Bay → List Bay → List Bay
  ring_from zero seen ring = ring
  ring_from (suc d) seen ring = ring_from d (ring ++ seen) (next_ring Y held (ring ++ seen) ring)

  unfoldable pub seen_from : ℕ → List Bay → List Bay → List Bay
  seen_from zero seen ring = ring ++ seen
  seen_from (suc d) seen ring = seen_from d (ring ++ seen) (next_ring Y held (ring ++ seen) ring)

  ring_from-suc : (d : ℕ) (seen ring : List Bay) → ring_from (suc d) seen ring ≡ next_ring Y held (seen_from d seen ring) (ring_from d seen ring)
  unfolding ring_from seen_from
  ring_from-suc zero seen ring = refl
  ring_from-suc (suc d) seen ring = ring_from-suc d (ring ++ seen) (next_ring Y held (ring ++ seen) ring)

  seen_from-suc : (d : ℕ) (seen ring : List Bay) → seen_from (suc d) seen ring ≡ ring_from (suc d) seen ring ++ seen_from d seen ring
  unfolding ring_from seen_from
  seen_from-suc zero seen ring = refl
  seen_from-suc (suc d) seen ring = seen_from-suc d (ring ++ seen) (next_ring Y held (ring ++ seen) ring)

  ring-at : (k d : ℕ) (seen ring : List Bay) → d < k → get_or (rings_from Y held k seen ring) d [] ≡ ring_from d seen ring
  unfolding rings_from ring_from
  ring-at zero d seen ring h = absurd (omega arith)
  ring-at (suc k) zero seen ring h = refl
  ring-at (suc k) (suc d) seen ring h = ring-at k d (ring ++ seen) (next_ring Y held (ring ++ seen) ring) (omega arith)

  module _ (x : Bay) where
    -- the bays up to d rails from x
    abbrev pub within : ℕ → List Bay
    within d = seen_from d [] (x ∷ [])

    ring-more : (d : ℕ) → suc d < Y.bays → around Y held x (suc d) ≡ next_ring Y held (within d) (around Y held x d)
    ring-more d h =
        ring-at Y.bays (suc d) [] (x ∷ []) h ∙ ring_from-suc d [] (x ∷ [])
        ∙ ap (next_ring Y held (within d)) (sym (ring-at Y.bays d [] (x ∷ []) (omega arith)))

    within_more : (d : ℕ) → suc d < Y.bays → within (suc d) ≡ around Y held x (suc d) ++ within d
    within_more d h = seen_from-suc d [] (x ∷ []) ∙ ap (λ (l : List Bay). l ++ within d) (sym (ring-at Y.bays (suc d) [] (x ∷ []) h))

    pub ring-first : 0 < Y.bays → around Y held x 0 ≡ x ∷ []
    unfolding ring_from
    ring-first h = ring-at Y.bays 0 [] (x ∷ []) h

    ring-beyond : (d : ℕ) → Y.bays ≤ d → around Y held x d ≡ []
    ring-beyond d h = get_or-eq_default (rings Y held x) [] {n = d} (rw rings_from-length h)

    pub ring-inside : (d b : ℕ) → x < Y.bays → In b (around Y held x d) → b < Y.bays
    ring-inside zero b h i = rw (ring-zero Y held Y.bays [] x b i) h
    ring-inside (suc d) b h i = let r = count-high 0 Y.bays b (ring-free Y held Y.bays [] (x ∷ []) d b i).0.0 in omega arith

  -- beside the ring and not seen, in words, is the paper's next ring
  next-ring : (n : ℕ) (table ring_w seen_w : List ℕ) (ring seen : List Bay) → Table Y n table → n ≤ span
      → ((b : ℕ) → b < span → mem ring_w b ≡ elem b ring) → ((b : ℕ) → b < span → mem seen_w b ≡ elem b (held ++ seen))
      → ((b : ℕ) → In b ring → b < n)
      → (b : ℕ) → b < span → any_below (reaches table ring_w b) span and not (mem seen_w b) ≡ elem b (next_ring Y held seen ring)
  unfolding next_ring
  next-ring n table ring_w seen_w ring seen t most r s inn b h =
      let others : List Bay = without (held ++ seen) (up_to Y.bays) in
      equal-tests _ _
      (λ e.
      let k = any_below-some (reaches table ring_w b) span (and_left _ _ e) in
      let a : ℕ = k.0 in
      let a_in : In a ring = sym (r a k.1) ∙ and_left _ _ k.2 in
      let j : joined Y a b ≡ true = sym (t.same a b (inn a a_in) h) ∙ and_right _ _ k.2 in
      let l : b < n = (t.inside a b j).1 in
      in-filter (λ c. any (joined Y c) ring) others b
      (in_without (held ++ seen) (up_to Y.bays) b (in_count 0 Y.bays b (omega arith) (rw t.bays (omega arith))) (sym (s b h) ∙ not-true _ (and_right _ _ e)))
      (any_of (joined Y b) ring a a_in (joined-sym Y a b j)))
      (λ e.
      let i = filter-in (λ c. any (joined Y c) ring) others b e in
      let k = any_some (joined Y b) ring (filter_passes (λ c. any (joined Y c) ring) others b e) in
      let a : ℕ = k.0 in
      let a-low : a < n = inn a k.1 in
      and_both _ _
      (any_below-of (reaches table ring_w b) span a (omega arith)
      (and_both _ _ (r a (omega arith) ∙ k.1) (t.same a b a-low h ∙ joined-sym Y b a k.2)))
      (ap not (s b h ∙ without-out (held ++ seen) (up_to Y.bays) b i)))

no_member : (l : List ℕ) → ((b : ℕ) → In b l → ⊥) → l ≡ []
no_member [] f = refl
no_member (x ∷ l) f = absurd (f x (In-head x l))

-- after an empty ring all are empty
ring-dry : (Y : Yard) (held : List Bay) (x : Bay) (d i : ℕ) → around Y held x d ≡ [] → d < i → around Y held x i ≡ []
unfolding next_ring any
ring-dry Y held x d zero e h = absurd (omega arith)
ring-dry Y held x d (suc i) e h = elim (dec_lt (suc i) Y.bays) [
  | yes k ↦
      let before : around Y held x i ≡ [] = elim (ℕ_discrete d i) [ yes q ↦ rw q at e | no q ↦ ring-dry Y held x d i e (omega arith) ] in
      ring-more Y held x i k ∙ rw before (filter_none _)
  | no k ↦ ring-beyond Y held x (suc i) (omega arith)
]

-- what is beside the ring, settled, is the next ring
pub ring-settled : {table seen ring seen' ring' next : List ℕ} → Beside table ring next span → Settled next seen seen' ring' → Widened table seen ring seen' ring'
ring-settled p s = record { ringed = λ b h. s.ringed b h ∙ rw (p.same b h); all_seen = s.all_seen }

-- ## Where the search stands

pub elem-one : (b x : ℕ) → elem b (x ∷ []) ≡ eqb b x
unfolding elem
elem-one b x = same_test (eqb b x)

regroup : (a b c : Bool) → (a or b) or c ≡ a or (c or b)
unfolding ◌or◌
regroup true b c = refl
regroup false true true = refl
regroup false true false = refl
regroup false false true = refl
regroup false false false = refl

module _ {n : ℕ} {table held : List ℕ} (s : Shown n table held) (x : Bay) where
  -- the two sets stand at ring d
  pub record Widening (d : ℕ) (seen ring : List ℕ) : Type 0 where
    pub seeing : (b : ℕ) → b < span → mem seen b ≡ elem b (s.bays ++ within s.yard s.bays x d)
    pub ringing : (b : ℕ) → b < span → mem ring b ≡ elem b (ring_on s x d)

  -- the search stands at ring d, and no ring before it has a wanted bay
  pub record Searching (wanted : List ℕ) (d : ℕ) (seen ring rows : List ℕ) : Type 0 where
    pub far : d < n
    pub seeing : (b : ℕ) → b < span → mem seen b ≡ elem b (s.bays ++ within s.yard s.bays x d)
    pub ringing : (b : ℕ) → b < span → mem ring b ≡ elem b (ring_on s x d)
    pub rowing : (i b : ℕ) → i ≤ d → b < span → mem_row rows i b ≡ elem b (ring_on s x i)
    pub before : (i b : ℕ) → i < d → In b (ring_on s x i) → mem wanted b ≡ false

  pub in-yard : n ≤ span → x < n → (d b : ℕ) → In b (ring_on s x d) → b < n
  in-yard most hx d b i =
      let hx' : x < s.yard.bays = rw s.joins.bays hx in
      rw s.joins.bays at (ring-inside s.yard s.bays x d b hx' i)

  pub searching-inside : (wanted : List ℕ) (d : ℕ) (seen ring rows : List ℕ) → n ≤ span → x < n → Searching wanted d seen ring rows
      → (b : ℕ) → b < span → mem ring b ≡ true → b < n
  searching-inside wanted d seen ring rows most hx g b h m = in-yard most hx d b (sym (g.ringing b h) ∙ m)

  pub widening-first : (seen₁ : List ℕ) {seen ring : List ℕ} → x < n → ((b : ℕ) → b < span → mem seen₁ b ≡ mem held b)
      → ((y : ℕ) → mem seen y ≡ mem seen₁ y or eqb y x) → ((y : ℕ) → mem ring y ≡ eqb y x) → Widening 0 seen ring
  widening-first seen₁ h same f r =
      let first : ring_on s x 0 ≡ x ∷ [] = ring-first s.yard s.bays x (rw s.joins.bays (omega arith)) in
      let start : within s.yard s.bays x 0 ≡ x ∷ [] = unfold seen_from in refl in
      record {
        seeing = λ b l. f b ∙ rw (same b l, s.holds b l, start, elem-append, elem-one b x);
        ringing = λ b l. r b ∙ rw (first, elem-one b x);
      }

  pub widening-more : {d : ℕ} {seen ring seen' ring' : List ℕ} → n ≤ span → x < n → d + 1 < n → Widening d seen ring → Widened table seen ring seen' ring' → Widening (d + 1) seen' ring'
  widening-more {d} {seen} {ring} {seen'} {ring'} most hx h w e =
      let Y = s.yard in
      let bays = s.bays in
      let near : suc d < Y.bays = rw s.joins.bays (omega arith) in
      let ringing' : (b : ℕ) → b < span → mem ring' b ≡ elem b (ring_on s x (d + 1)) =
      λ b k. e.ringed b k
      ∙ next-ring Y bays n table ring seen (ring_on s x d) (within Y bays x d) s.joins most w.ringing w.seeing
      (λ c i. in-yard most hx d c i) b k
      ∙ rw (add-one, ring-more Y bays x d near)
      in
      record {
        seeing = λ b k.
            e.all_seen b k ∙ rw (w.seeing b k, ringing' b k, add-one, within_more Y bays x d near, elem-append, elem-append, elem-append)
            (regroup (elem b bays) (elem b (within Y bays x d)) (elem b (ring_on s x (suc d))));
        ringing = ringing';
      }

  -- each bay of the ring has its row in the table
  pub widening-rows : {d : ℕ} {seen ring : List ℕ} → n ≤ span → x < n → n * words ≤ length table → Widening d seen ring → (b : ℕ) → b < span → mem ring b ≡ true → b * words + words ≤ length table
  widening-rows {d} most hx size w b h m = let l : b < n = in-yard most hx d b (sym (w.ringing b h) ∙ m) in omega arith

  -- there are as many rings as bays
  pub ring-none : (i : ℕ) → n ≤ i → ring_on s x i ≡ []
  ring-none i h = ring-beyond s.yard s.bays x i (rw s.joins.bays (omega arith))

  pub searching-first : (wanted seen₀ seen₁ seen ring rows₀ rows : List ℕ) → x < n
      → Kept seen₀ 0 held seen₁ → ((y : ℕ) → mem seen y ≡ mem seen₁ y or eqb y x) → ((y : ℕ) → mem ring y ≡ eqb y x)
      → Kept rows₀ 0 ring rows → Searching wanted 0 seen ring rows
  searching-first wanted seen₀ seen₁ seen ring rows₀ rows h k sn r w =
      let g = widening-first seen₁ h (λ b l. sym (row_zero seen₁ b) ∙ k.row b l) sn r in
      record {
        far = omega arith;
        seeing = g.seeing;
        ringing = g.ringing;
        rowing = λ i b j l. let e : i ≡ 0 = omega arith in rw e (w.row b l ∙ g.ringing b l);
        before = λ i b j. absurd (omega arith);
      }

  -- a wanted bay is in the ring
  abbrev meeting : List ℕ → List ℕ → Bool
  meeting ring wanted = any_below (λ y. mem_row ring 0 y and mem_row wanted 0 y) span

  missed : (ring wanted : List ℕ) (b : ℕ) → meeting ring wanted ≡ false → b < span → mem ring b ≡ true → mem wanted b ≡ false
  missed ring wanted b l h m =
      by_cases (mem wanted b)
      (λ t. not-both (any_below-of _ span b h (and_both _ _ (row_zero ring b ∙ m) (row_zero wanted b ∙ t))) l)
      (λ t. t)

  pub searching-more : (wanted : List ℕ) (d : ℕ) (seen ring rows seen' ring' rows' : List ℕ) → n ≤ span → x < n → d + 1 < n
      → Searching wanted d seen ring rows → meeting ring wanted ≡ false
      → NextRingSays table d seen ring rows seen' ring' rows' → Searching wanted (d + 1) seen' ring' rows'
  searching-more wanted d seen ring rows seen' ring' rows' most hx h g l e =
      let w = widening-more most hx h (record { seeing = g.seeing; ringing = g.ringing }) e.widened in
      record {
        far = h;
        seeing = w.seeing;
        ringing = w.ringing;
        rowing = λ i b j k. elim (ℕ_discrete i (d + 1)) [
          | yes q ↦ rw q (e.kept.row b k ∙ w.ringing b k)
          | no q ↦ e.kept.others i b q k ∙ g.rowing i b (omega arith) k
        ];
        before = λ i b k y. elim (ℕ_discrete i d) [
          | yes q ↦
              let y' : In b (ring_on s x d) = rw q at y in
              let low : b < n = in-yard most hx d b y' in
              missed ring wanted b l (omega arith) (g.ringing b (omega arith) ∙ y')
          | no q ↦ g.before i b (omega arith) y
        ];
      }

  -- ## Where the search ends

  searched : (wanted : List ℕ) (d : ℕ) (seen ring rows : List ℕ) → Searching wanted d seen ring rows
      → (d + 1) * words ≤ length rows → (GoesOn n rows d → ((b : ℕ) → In b (ring_on s x d) → mem wanted b ≡ false) → (i : ℕ) → d < i → ring_on s x i ≡ []) → Searched s x wanted rows d
  searched wanted d seen ring rows g k f = record { far = g.far; rowing = g.rowing; before = g.before; roomy = k; last = f }

  -- the ring has a wanted bay
  pub searched-wanted : (wanted : List ℕ) (d : ℕ) (seen ring rows : List ℕ) → Searching wanted d seen ring rows
      → meeting ring wanted ≡ true → (d + 1) * words ≤ length rows → Searched s x wanted rows d
  searched-wanted wanted d seen ring rows g l k =
      searched wanted d seen ring rows g k
      (λ o f.
      let z = any_below-some _ span l in
      let i : In z.0 (ring_on s x d) = sym (g.ringing z.0 z.1) ∙ sym (row_zero ring z.0) ∙ and_left _ _ z.2 in
      not-both (sym (row_zero wanted z.0) ∙ and_right _ _ z.2) (f z.0 i))

  -- there are as many rings as bays
  pub searched-all : (wanted : List ℕ) (d : ℕ) (seen ring rows : List ℕ) → Searching wanted d seen ring rows → n ≤ d + 1 → (d + 1) * words ≤ length rows → Searched s x wanted rows d
  searched-all wanted d seen ring rows g h m =
      searched wanted d seen ring rows g m (λ o f i k. ring-beyond s.yard s.bays x i (rw s.joins.bays (omega arith)))

  -- the ring is empty
  pub searched-dry : (wanted : List ℕ) (d : ℕ) (seen ring rows : List ℕ) → n ≤ span → x < n → Searching wanted d seen ring rows
      → not (any_below (mem ring) span) ≡ true → (d + 1) * words ≤ length rows → Searched s x wanted rows d
  searched-dry wanted d seen ring rows most hx g l m =
      let none : ring_on s x d ≡ [] = no_member (ring_on s x d) (λ b i.
      let low : b < n = in-yard most hx d b i in
      not-both (any_below-of (mem ring) span b (omega arith) (g.ringing b (omega arith) ∙ i)) (not-true _ l)) in
      searched wanted d seen ring rows g m (λ o f i k. ring-dry s.yard s.bays x d i none k)

  -- there is no row for another ring
  pub searched-short : (wanted : List ℕ) (d : ℕ) (seen ring rows : List ℕ) → Searching wanted d seen ring rows → d + 1 < n → length rows < (d + 2) * words
      → (d + 1) * words ≤ length rows → Searched s x wanted rows d
  searched-short wanted d seen ring rows g h k m =
      searched wanted d seen ring rows g m (λ o f i j. absurd (⊎_elim (λ l. omega arith) (λ l. omega arith) o))

  -- it was the last ring, or the last one with a row
  pub searched-last : (wanted : List ℕ) (d : ℕ) (seen ring rows : List ℕ) → Searching wanted d seen ring rows
      → (d + 1) * words ≤ length rows → (d + 1 < n → length rows < (d + 2) * words) → Searched s x wanted rows d
  searched-last wanted d seen ring rows g m k = elim (dec_lt (d + 1) n) [
    | yes h ↦ searched-short wanted d seen ring rows g h (k h) m
    | no h ↦ searched-all wanted d seen ring rows g (omega arith) m
  ]

-- ## Any set is held

members-mem : (ws : List ℕ) (b : ℕ) → b < 64 * length ws → mem ws b ≡ elem b (members ws)
unfolding members
members-mem ws b h =
    equal-tests (mem ws b) (elem b (filter (mem ws) (up_to (64 * length ws))))
    (λ k. in-filter (mem ws) (up_to (64 * length ws)) b (in_count 0 (64 * length ws) b (omega arith) (omega arith)) k)
    (λ k. filter_passes (mem ws) (up_to (64 * length ws)) b k)

-- the words of any set show its members as the held bays
pub shown-any : {n : ℕ} {table held : List ℕ} {Y : Yard} → Table Y n table → length held ≡ words → Shown n table held
shown-any {held = held} {Y = Y} t l = record {
  yard = Y;
  bays = members held;
  joins = t;
  holds = λ b h. members-mem held b (omega arith);
}
