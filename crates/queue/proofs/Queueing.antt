-- A bay of the queue is passed: what it leads to and was not seen, rising, goes to the queue's end. So each bay stands behind whatever
-- an earlier bay leads to, and behind the lower ones of its own.
-- Assumes nothing.
use mathlib.Core.Path.{◌≡◌, sym, ap, ◌∙◌}
use mathlib.Core.Bool.{Bool, true, false, not}
use mathlib.Core.List.{List, ◌++◌}
use mathlib.Core.Logic.{◌⊎◌, inl, inr, ⊎_elim}
use Prim.Native.Nat.{ℕ, suc, ◌+◌, ◌-◌, ◌≤◌, ◌<◌}
use native.Mathlib.Decide.{ℕ_discrete, dec_lt}
use native.Mathlib.Omega.{arith}
use lib.ListN.{length, get_or, take, length-append, get_or-append}
use lib.Seq.{take-append-le, take-append-add, get_or-append-add}
use borrow.Author.Tests.{not-true}
use Rattle.paper.specs.Basics.{◌or◌, elem, up_to, In, Out, NoDup}
use Rattle.paper.proofs.Tests.{by_cases, not-both, and_left, and_right, and_both, or_left, or_right, or_cases, or-none}
use Rattle.paper.proofs.Members.{In-append, In-append-left, In-append-right, filter-in, filter_passes, in-filter, nodup_append, nodup-filter, nodup-count, count-high, in_count}
use Rattle.paper.proofs.Playing.{bay-in}
use Rattle.words.specs.Sets.{mem, mem_row, span}
use Rattle.words.proofs.Besides.{equal-tests}
use Rattle.queue.specs.Meeting.{is_new, new}
use Rattle.queue.specs.Queue.{Leads, Parent, Met}
use Rattle.queue.proofs.Places.{lower-before}

-- seen, or in one list or the other
pub seen-both : (a : Bool) (b : ℕ) (xs ys : List ℕ) → (a or elem b xs) or elem b ys ≡ a or elem b (xs ++ ys)
seen-both a b xs ys =
    equal-tests _ _
    (λ i. or_cases _ _ i (λ k. or_cases _ _ k (λ t. or_left _ _ t) (λ t. or_right _ _ (In-append-left b xs ys t))) (λ k. or_right _ _ (In-append-right b xs ys k)))
    (λ i. or_cases _ _ i (λ t. or_left _ _ (or_left _ _ t)) (λ t. In-append b xs ys t (λ k. or_left _ _ (or_right _ _ k)) (λ k. or_right _ _ k)))

module _ {n : ℕ} {table held : List ℕ} {x : ℕ} {seen queue before : List ℕ} {done : ℕ} (m : Met n table held x seen queue before done) (h : done < length queue) where
  -- the bay that is passed, and the new ones that it leads to
  abbrev pub here : ℕ
  here = get_or queue done 0

  abbrev pub found : List ℕ
  found = new table seen here

  here-inside : here < n
  here-inside = m.inside here (bay-in queue done h)

  found-new : (z : ℕ) → In z found → (mem_row table here z ≡ true) × (mem seen z ≡ false) × (z < span)
  found-new z i =
      let t = filter_passes (is_new table seen here) (up_to span) z i in
      let l = count-high 0 span z (filter-in (is_new table seen here) (up_to span) z i) in
      (and_left _ _ t, not-true (mem seen z) (and_right _ _ t), omega arith)

  found-free : (z : ℕ) → In z found → (mem held z ≡ false) × Out z queue
  found-free z i = let t = found-new z i in or-none (mem held z) (elem z queue) (sym (m.seeing z t.2) ∙ t.1)

  found-out : (z : ℕ) → In z found → Out z queue
  found-out z i = (found-free z i).1

  queue-old : (z : ℕ) → In z queue → Out z found
  queue-old z i = by_cases (elem z found) (λ k. not-both i (found-out z k)) (λ k. k)

  -- what it leads to is in the queue, or new
  leads-to : (z : ℕ) → z < span → Leads table held queue done z → In z queue ⊎ In z found
  leads-to z l k =
      by_cases (mem seen z)
      (λ s. or_cases (mem held z) (elem z queue) (sym (m.seeing z l) ∙ s) (λ t. not-both t k.1) inl)
      (λ s. inr (in-filter (is_new table seen here) (up_to span) z (in_count 0 span z (omega arith) (omega arith)) (and_both _ _ k.0 (ap not s))))

  pub more-once : NoDup (queue ++ found)
  more-once = nodup_append queue found m.once (nodup-filter (is_new table seen here) (up_to span) (nodup-count 0 span)) queue-old

  pub more-inside : n ≤ span → (b : ℕ) → In b (queue ++ found) → b < n
  more-inside most b i =
      In-append b queue found i (m.inside b) (λ k. let t = found-new b k in m.rails here b here-inside t.2 t.0)

  module _ (seen' before' : List ℕ) (most : n ≤ span) (sees : (b : ℕ) → b < span → mem seen' b ≡ mem seen b or elem b found)
      (parents : (y : ℕ) → In y found → get_or before' y 0 ≡ here) (others : (y : ℕ) → Out y found → get_or before' y 0 ≡ get_or before y 0) where
    old-parent : (j : ℕ) → j < length queue → Parent table held queue before done j → Parent table held (queue ++ found) before' (suc done) j
    old-parent j k p =
        let at_j : get_or (queue ++ found) j 0 ≡ get_or queue j 0 = get_or-append queue found 0 j k in
        let at_p : get_or (queue ++ found) p.place 0 ≡ get_or queue p.place 0 = get_or-append queue found 0 p.place (omega (arith, p.earlier)) in
        record {
          place = p.place;
          earlier = p.earlier;
          passed = omega (arith, p.passed);
          there = rw (at_j, at_p) (others _ (queue-old _ (bay-in queue j k)) ∙ p.there);
          rail = rw (at_j, at_p) p.rail;
          first = λ l z s o r.
              let low : l < length queue = ⊎_elim (λ g. omega (arith, p.earlier)) (λ g. omega (arith, p.earlier, g.0)) o in
              rw (take-append-le j queue found (omega arith))
              (p.first l z s (rw at_j at o) (rw (get_or-append queue found 0 l low) at r));
        }

    new-parent : (i : ℕ) → i < length found → Parent table held (queue ++ found) before' (suc done) (length queue + i)
    new-parent i k =
        let u : ℕ = get_or found i 0 in
        let u-in : In u found = bay-in found i k in
        let at-u : get_or (queue ++ found) (length queue + i) 0 ≡ u = get_or-append-add queue found i 0 in
        let at_here : get_or (queue ++ found) done 0 ≡ here = get_or-append queue found 0 done h in
        record {
          place = done;
          earlier = omega arith;
          passed = omega arith;
          there = rw (at-u, at_here) (parents u u-in);
          rail = rw (at-u, at_here) (found-new u u-in).0;
          first = λ l z s o r.
              rw (take-append-add queue found i)
              (⊎_elim
              (λ g. In-append-left z queue (take i found) (m.looked l z g s (rw (get_or-append queue found 0 l (omega arith)) at r)))
              (λ g.
              let r' : Leads table held queue done z = rw (g.0, at_here) at r in
              let low : z < u = rw at-u at g.1 in
              ⊎_elim
              (λ y. In-append-left z queue (take i found) y)
              (λ y. In-append-right z queue (take i found) (lower-before (is_new table seen here) 0 span i z y low))
              (leads-to z s r'))
              o);
        }

    pub met-more : Met n table held x seen' (queue ++ found) before' (suc done)
    met-more = record {
      rails = m.rails;
      starts = get_or-append queue found 0 0 (omega arith) ∙ m.starts;
      inside = more-inside most;
      unheld = λ b i. In-append b queue found i (m.unheld b) (λ k. (found-free b k).0);
      once = more-once;
      seeing = λ b k. sees b k ∙ rw (m.seeing b k) (seen-both (mem held b) b queue found);
      parent = λ j p k. elim (dec_lt j (length queue)) [
        | yes l ↦ old-parent j l (m.parent j p l)
        | no l ↦
            let i : ℕ = j - length queue in
            let e : length queue + i ≡ j = omega arith in
            rw e at (new-parent i (omega (arith, length-append queue found)))
      ];
      low = λ y. by_cases (elem y found) (λ i. let e = parents y i in omega (arith, e, here-inside)) (λ o. rw (others y o) (m.low y));
      looked = λ l z k s r. elim (ℕ_discrete l done) [
        | yes e ↦
            let r' : Leads table held queue done z = rw (e, get_or-append queue found 0 done h) at r in
            ⊎_elim (λ y. In-append-left z queue found y) (λ y. In-append-right z queue found y) (leads-to z s r')
        | no e ↦ In-append-left z queue found (m.looked l z (omega arith) s (rw (get_or-append queue found 0 l (omega arith)) at r))
      ];
    }
