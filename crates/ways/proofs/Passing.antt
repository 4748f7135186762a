-- Once all bays of a ring are passed, the queue holds the next ring too: whatever they lead to is in it, and what stands behind them was
-- met from one that was passed. Where nothing new stands behind them, no ring follows.
-- Assumes nothing.
use mathlib.Core.Path.{◌≡◌, refl, sym, ◌∙◌}
use mathlib.Core.Bool.{true, false}
use mathlib.Core.List.{List, [], ◌∷◌}
use Prim.Native.Nat.{ℕ, zero, suc, ◌+◌, ◌≤◌, ◌<◌}
use native.Mathlib.Decide.{dec_lt}
use native.Mathlib.Omega.{arith}
use lib.Dec.{eqb}
use lib.ListN.{length, get_or, take, replicate}
use lib.Seq.{take-take, length-take-le}
use Rattle.lists.proofs.Lists.{low_zeros}
use Rattle.paper.specs.Basics.{◌or◌, elem, place_of, In, Out}
use Rattle.paper.specs.Yard.{Bay, joined}
use Rattle.paper.proofs.Tests.{by_cases, not-both}
use Rattle.paper.proofs.Members.{In-one, nothing-in-nil, take_in}
use Rattle.paper.proofs.Playing.{place_of-bay, place_of-there}
use Rattle.paper.proofs.Rings.{joined-sym, on, ring-step, ring-free, ring-walk, rings-apart, walk-ring}
use Rattle.words.specs.Sets.{mem, mem_row, span}
use Rattle.rings.specs.Search.{Shown, ring_on}
use Rattle.rings.proofs.Searching.{elem-one, in-yard, ring-first}
use Rattle.queue.specs.Queue.{Low, Met, Passed}
use Rattle.queue.proofs.Places.{before-in, in-before}
use Rattle.ways.proofs.Tracing.{free_of}

-- the queue holds the bays up to d rails from x, and no others
pub record Within {n : ℕ} {table held : List ℕ} (s : Shown n table held) (x : Bay) (d : ℕ) (queue : List ℕ) : Type 0 where
  pub holds : (i b : ℕ) → i ≤ d → In b (ring_on s x i) → In b queue
  pub only : (b : ℕ) → In b queue → (i : ℕ) × (i ≤ d) × In b (ring_on s x i)

-- ## The start

-- before the search no bay was met from any but bay 0
pub zeros-low : Low (replicate span 0)
zeros-low y = let z = low_zeros span y in omega arith

module _ {n : ℕ} {table held : List ℕ} (s : Shown n table held) (x : Bay) (hx : x < n) where
  pub first-ring : ring_on s x 0 ≡ x ∷ []
  first-ring = ring-first s.yard s.bays x (rw s.joins.bays (omega arith))

  -- the first ring is x alone
  pub of-first : (i b : ℕ) → i ≤ 0 → In b (ring_on s x i) → In b (x ∷ [])
  of-first i b l y = let e : i ≡ 0 = omega arith in rw (e, first-ring) at y

  pub start-within : Within s x 0 (x ∷ [])
  start-within = record { holds = of-first; only = λ b i. (0, omega arith, rw first-ring i) }

  pub start-met : mem held x ≡ false → (seen before : List ℕ) → Low before → ((b : ℕ) → b < span → mem seen b ≡ mem held b or eqb b x)
      → Met n table held x seen (x ∷ []) before 0
  start-met unheld seen before low f = record {
    rails = λ a b h k e. (s.joins.inside a b (sym (s.joins.same a b h k) ∙ e)).1;
    starts = refl;
    inside = λ b i. rw (In-one b x i) hx;
    unheld = λ b i. rw (In-one b x i) unheld;
    once = (nothing-in-nil x, tt);
    seeing = λ b h. f b h ∙ rw (elem-one b x);
    parent = λ j p h. absurd (omega arith);
    low = low;
    looked = λ l z h. absurd (omega arith);
  }

-- ## One ring more

module _ {n : ℕ} {table held : List ℕ} (s : Shown n table held) (most : n ≤ span) (x : Bay) (hx : x < n) {d : ℕ} {seen' queue queue' before' : List ℕ} {hi : ℕ}
    (w : Within s x d queue) (m : Met n table held x seen' queue' before' hi) (kept : take hi queue' ≡ queue) (some : 0 < hi) (long : hi ≤ length queue') where
  stays : (b : ℕ) → In b queue → In b queue'
  stays b i = take_in hi queue' b (rw kept i)

  -- what the ring leads to is in the queue
  pub next-holds : (i b : ℕ) → i ≤ d + 1 → In b (ring_on s x i) → In b queue'
  next-holds i b h y = elim (dec_lt d i) [
    | yes o ↦
        let e : i ≡ suc d = omega arith in
        let y' : In b (ring_on s x (suc d)) = rw e at y in
        let t = ring-step s.yard s.bays s.yard.bays [] (x ∷ []) d b y' in
        let ha : t.0 < n = in-yard s x most hx d t.0 t.1 in
        let hb : b < n = in-yard s x most hx (suc d) b y' in
        let low : b < span = omega arith in
        let l = in-before queue' hi t.0 long (rw kept (w.holds d t.0 (omega arith) t.1)) in
        m.looked l.0 b l.1 low (
          rw l.2 (s.joins.same t.0 b ha low ∙ joined-sym s.yard b t.0 t.2),
          s.holds b low ∙ (ring-free s.yard s.bays s.yard.bays [] (x ∷ []) d b y').0.1,
        )
    | no o ↦ stays b (w.holds i b (omega arith) y)
  ]

  -- what stands behind the bays that were there was met from one of them
  met-from : (b : ℕ) → In b queue' → Out b queue → (a : ℕ) × In a queue × (mem_row table a b ≡ true)
  met-from b i o =
      let j : ℕ = place_of b queue' in
      let at_b : get_or queue' j 0 ≡ b = place_of-bay queue' b i in
      let behind : hi ≤ j = elim (dec_lt j hi) [
        | yes h ↦ not-both (rw (kept, at_b) at (before-in queue' j hi h long)) o
        | no h ↦ omega arith
      ] in
      let p = m.parent j (omega arith) (place_of-there queue' b i) in
      (get_or queue' p.place 0, rw kept at (before-in queue' p.place hi p.passed long), rw at_b at p.rail)

  next-only : d + 1 < n → (b : ℕ) → In b queue' → (i : ℕ) × (i ≤ d + 1) × In b (ring_on s x i)
  next-only far b i =
      by_cases (elem b queue)
      (λ y. let k = w.only b y in (k.0, omega (arith, k.1), k.2))
      (λ o.
      let Y = s.yard in
      let f = met-from b i o in
      let k = w.only f.0 f.1 in
      let ha : f.0 < n = in-yard s x most hx k.0 f.0 k.2 in
      let hb : b < n = m.inside b i in
      let rail : joined Y f.0 b ≡ true = sym (s.joins.same f.0 b ha (omega arith)) ∙ f.2 in
      let free = free_of s most b hb (m.unheld b i) in
      let short : suc k.0 < Y.bays = let e = s.joins.bays in omega (arith, k.1) in
      let t = walk-ring Y s.bays Y.bays x (on (ring-walk Y s.bays Y.bays x k.0 f.0 k.2) rail free) short in
      (t.0, omega (arith, t.1, k.1), t.2))

  pub next-within : d + 1 < n → Within s x (d + 1) queue'
  next-within far = record { holds = next-holds; only = next-only far }

-- ## A ring that was passed

module _ {n : ℕ} {table held : List ℕ} (s : Shown n table held) (most : n ≤ span) (x : Bay) (hx : x < n) (d : ℕ) {met : List ℕ} {count : ℕ} (w : Within s x d (take count met)) (near : d < count)
    {seen' met' before' : List ℕ} {r : ℕ} (p : Passed n table held x met count seen' met' before' count r) (room : n ≤ length met') where
  kept : take count (take r met') ≡ take count met
  kept = take-take count r met' p.more ∙ p.kept

  long : count ≤ length (take r met')
  long = omega (arith, p.more, p.most, length-take-le r met' (omega (arith, p.most)))

  pub wider : count < r → Within s x (d + 1) (take r met')
  wider grew = next-within s most x hx w p.queue kept (omega arith) long (omega (arith, p.most))

  next-dry : r ≡ count → (b : ℕ) → In b (ring_on s x (d + 1)) → ⊥
  next-dry e b i =
      let y : In b (take r met') = next-holds s most x hx w p.queue kept (omega arith) long (d + 1) b (omega arith) i in
      let k = w.only b (rw (e, p.kept) at y) in
      not-both k.2 (rings-apart s.yard s.bays s.yard.bays [] (x ∷ []) k.0 (d + 1) b (omega (arith, k.1)) i)

  -- where nothing is new, all rings from here on have no bay
  pub all-dry : r ≡ count → (k b : ℕ) → In b (ring_on s x (k + (d + 1))) → ⊥
  all-dry e zero b i = let z : 0 + (d + 1) ≡ d + 1 = omega arith in next-dry e b (rw z at i)
  all-dry e (suc k) b i =
      let z : suc k + (d + 1) ≡ suc (k + (d + 1)) = omega arith in
      let t = ring-step s.yard s.bays s.yard.bays [] (x ∷ []) (k + (d + 1)) b (rw z at i) in
      all-dry e k t.0 t.1
