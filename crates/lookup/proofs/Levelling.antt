-- Level by level: a bay stands in level j for x exactly if a walk of one to j + 1 rails leads from x to it, with no bay held. So of the bays beside one
-- that is j + 2 rails from e, those in level j for e are exactly the ones that are a rail nearer; and a bay that is so with held bays too is one of
-- them.
-- Assumes nothing.
use mathlib.Core.Path.{◌≡◌, refl, sym, ap, ◌∙◌}
use mathlib.Core.Bool.{true, false, not}
use mathlib.Core.List.{List, [], ◌∷◌}
use Prim.Native.Nat.{ℕ, zero, suc, ◌+◌, ◌*◌, ◌≤◌, ◌<◌}
use native.Mathlib.Decide.{dec_lt}
use native.Mathlib.Nat.{mul-le-mul_right}
use native.Mathlib.Numerals.{add-one}
use native.Mathlib.Omega.{arith}
use lib.ListN.{length}
use borrow.Author.Tests.{not-true}
use Rattle.paper.specs.Basics.{◌and◌, ◌or◌, elem, up_to, In}
use Rattle.paper.specs.Yard.{Bay, Yard, joined}
use Rattle.paper.specs.Path.{Free, rings}
use Rattle.paper.proofs.Tests.{not-both, and_left, and_right, and_both, or_left, or_right, or_cases}
use Rattle.paper.proofs.Members.{in_count, count-high, nothing-in-nil, lowest-least}
use Rattle.paper.proofs.Rings.{joined-sym, Walk, here, on, walk-cons, walk-free, ring-walk, walk-ring, rings-apart}
use Rattle.paper.proofs.Rings.{reached-walk, in-ring, ring-free, rings_from-length}
use Rattle.paper.proofs.Reach.{enough}
use Rattle.paper.proofs.Shortest.{Next}
use Rattle.words.specs.Sets.{mem, mem_row, words, span, any_below, Lowest}
use Rattle.words.proofs.Besides.{any_below-some, any_below-of}
use Rattle.yard.specs.Table.{Table}
use Rattle.rings.specs.Search.{around}
use Rattle.levels.specs.Levels.{Levelled}

-- ## Rows

-- if k levels are in the table, fewer are in it too
pub fewer-fit : (k n j : ℕ) {size : ℕ} → k * n * words ≤ size → j ≤ k → j * n * words ≤ size
fewer-fit k n j h l = let m : j * n ≤ k * n = mul-le-mul_right n l in omega arith

-- ## Walks

-- a walk has no rail, or a first one
pub walk_first : (Y : Yard) {x b : Bay} {i : ℕ} {P : Type 0} → Walk Y [] x i b → (i ≡ 0 → x ≡ b → P)
    → ((k : ℕ) (y : Bay) → i ≡ suc k → joined Y x y ≡ true → Free Y [] y → Walk Y [] y k b → P) → P
walk_first Y here f g = f refl refl
walk_first Y {b = b} (on r rail free) f g =
    walk_first Y r
    (λ z same. g 0 b (ap suc z) (rw same rail) free here)
    (λ k y z first y-free w. g (suc k) y (ap suc z) first y-free (on w rail free))

-- held bays only take walks away
pub walk-plain : (Y : Yard) (bays : List Bay) {x b : Bay} {i : ℕ} → Walk Y bays x i b → Walk Y [] x i b
walk-plain Y bays here = here
walk-plain Y bays {b = b} (on r rail free) = on (walk-plain Y bays r) rail (free.0, nothing-in-nil b)

module _ {Y : Yard} {n : ℕ} {table : List ℕ} (t : Table Y n table) (most : n ≤ span) where
  pub free-inside : (b : Bay) → b < n → Free Y [] b
  free-inside b h = (in_count 0 Y.bays b (omega arith) (rw t.bays (omega arith)), nothing-in-nil b)

  pub inside : (b : Bay) → In b (up_to Y.bays) → b < n
  inside b i = omega (arith, t.bays, count-high 0 Y.bays b i)

  module _ (l : Levelled n table) where
    rises : (j x b : ℕ) → (suc j + 1) * n * words ≤ length table → x < n → b < span
        → mem_row table (suc j * n + x) b ≡ mem_row table (j * n + x) b or any_below (λ y. mem_row table x y and mem_row table (j * n + y) b) span
    rises j x b fits hx hb =
        let e : j + 2 ≡ suc j + 1 = omega arith in
        rw add-one at (l.rises j x b (rw e fits) hx hb)

    -- what stands in level j is at most j + 1 rails away
    pub level-walk : (j x b : ℕ) → (j + 1) * n * words ≤ length table → x < n → b < span → mem_row table (j * n + x) b ≡ true
        → (i : ℕ) × (1 ≤ i) × (i ≤ j + 1) × Walk Y [] x i b
    level-walk zero x b fits hx hb m =
        let first : 0 * n + x ≡ x = omega arith in
        let rail : joined Y x b ≡ true = sym (t.same x b hx hb) ∙ (rw first at m) in
        (1, omega arith, omega arith, on here rail (free-inside b (t.inside x b rail).1))
    level-walk (suc j) x b fits hx hb m =
        let below : (j + 1) * n * words ≤ length table = fewer-fit (suc j + 1) n (j + 1) fits (omega arith) in
        or_cases _ _ (sym (rises j x b fits hx hb) ∙ m)
        (λ k. let r = level-walk j x b below hx hb k in (r.0, r.1, omega (arith, r.2), r.3))
        (λ k.
        let r = any_below-some (λ y. mem_row table x y and mem_row table (j * n + y) b) span k in
        let rail : joined Y x r.0 ≡ true = sym (t.same x r.0 hx r.1) ∙ and_left _ _ r.2 in
        let hy : r.0 < n = (t.inside x r.0 rail).1 in
        let s = level-walk j r.0 b below hy hb (and_right _ _ r.2) in
        (suc s.0, omega arith, omega (arith, s.2), walk-cons Y [] rail (free-inside r.0 hy) s.3))

    -- what is at most j + 1 rails away, and not by no rail, stands in level j
    pub walk-level : (j x b : ℕ) {i : ℕ} → (j + 1) * n * words ≤ length table → x < n → Walk Y [] x i b → 1 ≤ i → i ≤ j + 1
        → mem_row table (j * n + x) b ≡ true
    walk-level zero x b fits hx w low high =
        let first : 0 * n + x ≡ x = omega arith in
        walk_first Y w
        (λ z same. absurd (omega arith))
        (λ k y z rail y-free v. walk_first Y v
        (λ z' same. rw first (t.same x b hx (let h = inside y y-free.0 in omega arith) ∙ rw (← same) rail))
        (λ k' y' z' rail' free' v'. absurd (omega arith)))
    walk-level (suc j) x b fits hx w low high =
        let below : (j + 1) * n * words ≤ length table = fewer-fit (suc j + 1) n (j + 1) fits (omega arith) in
        let b-low : b < n = inside b (walk-free Y [] (free-inside x hx) w).0 in
        let up = rises j x b fits hx (omega arith) in
        walk_first Y w
        (λ z same. absurd (omega arith))
        (λ k y z rail y-free v.
        let hy : y < n = inside y y-free.0 in
        walk_first Y v
        (λ z' same. up ∙ or_left _ _ (walk-level j x b below hx (on here (rw (← same) rail) (rw (← same) y-free)) (omega arith) (omega arith)))
        (λ k' y' z' rail' free' v'. up ∙ or_right _ _
        (any_below-of (λ y. mem_row table x y and mem_row table (j * n + y) b) span y (omega arith)
        (and_both _ _ (t.same x y hx (omega arith) ∙ rail) (walk-level j y b below hy v (omega arith) (omega arith))))))

    -- ## How far it is

    module _ (e : Bay) (he : e < n) where
      -- d rails from e, and no fewer
      pub record Far (d : ℕ) (u : Bay) : Type 0 where
        pub walk : Walk Y [] e d u
        pub least : (i : ℕ) → Walk Y [] e i u → d ≤ i

      pub far-short : {d : ℕ} {u : Bay} → Far d u → d < n
      far-short {d} {u} f =
          let r = reached-walk Y [] e u (enough Y [] e (free-inside e he) f.walk) in
          omega (arith, t.bays, r.1, f.least r.0 r.2)

      -- where a walk as short meets no held bay, it is ring d with these
      pub held-ring : (bays : List Bay) {d : ℕ} {u : Bay} → Far d u → Walk Y bays e d u → In u (around Y bays e d)
      held-ring bays {d} {u} f w =
          let r = walk-ring Y bays Y.bays e w (rw t.bays (far-short f)) in
          let k : d ≤ r.0 = f.least r.0 (walk-plain Y bays (ring-walk Y bays Y.bays e r.0 u r.2)) in
          let same : r.0 ≡ d = omega (arith, r.1) in
          rw same at r.2

      -- it is ring d
      pub far-ring : {d : ℕ} {u : Bay} → Far d u → In u (around Y [] e d)
      far-ring f = held-ring [] f f.walk

      pub ring-far : {d : ℕ} {u : Bay} → In u (around Y [] e d) → Far d u
      ring-far {d} {u} i = record {
        walk = ring-walk Y [] Y.bays e d u i;
        least = λ k w. elim (dec_lt k d) [
          | yes h ↦
              let fits : d < Y.bays = rw rings_from-length at (in-ring u (rings Y [] e) d i) in
              let r = walk-ring Y [] Y.bays e w (omega arith) in
              not-both r.2 (rings-apart Y [] Y.bays [] (e ∷ []) r.0 d u (omega (arith, r.1)) i)
          | no h ↦ omega arith
        ];
      }

      -- Where u is k + 2 rails from e, r is the lowest bay beside u that stands in level k for e and is not held.
      module _ (held : List ℕ) (k u r : ℕ) (fits : (k + 1) * n * words ≤ length table) (hu : u < n) (i : In u (around Y [] e (suc (suc k))))
          (low : Lowest (λ b. mem_row table u b and (mem_row table (k * n + e) b and not (mem held b))) 0 span r) where
        -- it is one rail nearer with no bay held
        pub next-near : r < span → (joined Y u r ≡ true) × (mem held r ≡ false) × In r (around Y [] e (suc k))
        next-near h =
            let hit = low.hit h in
            let rail : joined Y u r ≡ true = sym (t.same u r hu h) ∙ and_left _ _ hit in
            let w = level-walk k e r fits he h (and_left _ _ (and_right _ _ hit)) in
            let no-nearer : (m : ℕ) → Walk Y [] e m r → suc k ≤ m =
            λ m v. let z = (ring-far i).least (suc m) (on v (joined-sym Y u r rail) (free-inside u hu)) in omega arith in
            let same : w.0 ≡ suc k = omega (arith, w.2, no-nearer w.0 w.3) in
            (rail, not-true (mem held r) (and_right _ _ (and_right _ _ hit)), far-ring (record { walk = rw same at w.3; least = no-nearer }))

        -- and where it is so with the held bays, it is the next bay of the path that meets none of them
        pub next-bay : (bays : List Bay) → ((b : ℕ) → b < span → mem held b ≡ elem b bays) → (s : Next Y bays e (suc k) u) → joined Y u r ≡ true
            → In r (around Y bays e (suc k)) → s.bay ≡ r
        next-bay bays holds s rail r-in =
            let walk : Walk Y bays e (suc k) s.bay = ring-walk Y bays Y.bays e (suc k) s.bay s.nearer in
            let free : Free Y bays s.bay = (ring-free Y bays Y.bays [] (e ∷ []) k s.bay s.nearer).0 in
            let hb : s.bay < span = omega (arith, inside s.bay free.0) in
            let one : mem_row table u s.bay ≡ true = t.same u s.bay hu hb ∙ s.rail in
            let two : mem_row table (k * n + e) s.bay ≡ true = walk-level k e s.bay fits he (walk-plain Y bays walk) (omega arith) (omega arith) in
            let three : not (mem held s.bay) ≡ true = ap not (holds s.bay hb ∙ free.1) in
            let b-low : s.bay ≤ r = lowest-least (joined Y u) (around Y bays e (suc k)) s.found r r-in rail in
            elim (dec_lt s.bay r) [
              | yes m ↦ not-both (and_both _ _ one (and_both _ _ two three)) (low.before s.bay (omega arith) m)
              | no m ↦ omega arith
            ]
