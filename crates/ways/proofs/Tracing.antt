-- The path back from e is the paper's path to e. Going back, u is always the first bay of the queue that is so few rails from e:
-- so the bay from which it was met is one rail further, is the first of those, and has no lower neighbour as near to e as u is.
-- Assumes nothing.
use mathlib.Core.Path.{◌≡◌, refl, sym, ◌∙◌}
use mathlib.Core.Bool.{true, false}
use mathlib.Core.List.{List, [], ◌∷◌}
use mathlib.Core.Logic.{◌⊎◌, inl, inr, ⊎_elim}
use Prim.Native.Nat.{ℕ, zero, suc, ◌+◌, ◌≤◌, ◌<◌}
use native.Mathlib.Decide.{ℕ_discrete, dec_lt}
use native.Mathlib.Omega.{arith}
use lib.ListN.{length, get_or, take}
use Rattle.paper.specs.Basics.{elem, place_of, In, Out}
use Rattle.paper.specs.Yard.{Bay, joined}
use Rattle.paper.specs.Path.{Free, rings, inward, shortest_path}
use Rattle.paper.proofs.Tests.{by_cases, not-both}
use Rattle.paper.proofs.Members.{In-head, in_count, lowest-least}
use Rattle.paper.proofs.Playing.{bay-in, place_of-bay, place_of-there}
use Rattle.paper.proofs.Rings.{joined-sym, ring-zero, ring-walk, walk-ring, on, rings-apart, rings_from-length, in-ring}
use Rattle.paper.proofs.Shortest.{next, inward-zero, around-free}
use Rattle.words.specs.Sets.{mem, span}
use Rattle.rings.specs.Search.{Shown, around, ring_on}
use Rattle.rings.proofs.Searching.{ring-first}
use Rattle.rings.proofs.Between.{start-far, shortest-far}
use Rattle.queue.specs.Meeting.{back}
use Rattle.queue.specs.Queue.{Leads, Parent, Met}
use Rattle.queue.proofs.Places.{before-in, in-before, once-before}

module _ {n : ℕ} {table held : List ℕ} (s : Shown n table held) (most : n ≤ span) where
  pub free_of : (b : Bay) → b < n → mem held b ≡ false → Free s.yard s.bays b
  free_of b h k =
      (in_count 0 s.yard.bays b (omega arith) (rw s.joins.bays (omega arith)), sym (s.holds b (omega arith)) ∙ k)

  module _ (x e d : ℕ) {seen queue before : List ℕ} {done : ℕ} (m : Met n table held x seen queue before done) (hx : x < n) (unheld : mem held x ≡ false)
      (there : In e (ring_on s x d)) where
    -- the bays t rails from e
    abbrev near : ℕ → List Bay
    near t = around s.yard s.bays e t

    free-x : Free s.yard s.bays x
    free-x = free_of x hx unheld

    free-e : Free s.yard s.bays e
    free-e = around-free s.yard s.bays x free-x d e there

    fits : d < s.yard.bays
    fits = rw rings_from-length at (in-ring e (rings s.yard s.bays x) d there)

    x-far : In x (near d)
    x-far = start-far s.yard s.bays x e d free-x there

    -- what stands before place j is more than t rails from e
    abbrev First : ℕ → ℕ → Type 0
    First j t = (b k : ℕ) → In b (take j queue) → k ≤ t → Out b (near k)

    leads : (l z : ℕ) → l < length queue → joined s.yard (get_or queue l 0) z ≡ true → Free s.yard s.bays z → (z < span) × Leads table held queue l z
    leads l z h j f =
        let w : ℕ = get_or queue l 0 in
        let hw : w < n = m.inside w (bay-in queue l h) in
        let i = s.joins.inside w z j in
        let hz : z < span = omega (arith, i.1) in
        (hz, (s.joins.same w z hw hz ∙ j, s.holds z hz ∙ f.1))

    module _ (t j : ℕ) (short : suc t ≤ d) (hj : j < length queue) (f : First j t) (u-near : In (get_or queue j 0) (near t)) (p : Parent table held queue before done j) where
      abbrev u : ℕ
      u = get_or queue j 0

      abbrev w : ℕ
      w = get_or queue p.place 0

      w-before : In w (take j queue)
      w-before = before-in queue p.place j p.earlier (omega arith)

      w-in : In w queue
      w-in = bay-in queue p.place (omega (arith, p.earlier))

      rail : joined s.yard w u ≡ true
      rail =
          let hu : u < n = m.inside u (bay-in queue j hj) in
          sym (s.joins.same w u (m.inside w w-in) (omega arith)) ∙ p.rail

      further : In w (near (suc t))
      further =
          let Y = s.yard in
          let free-w : Free Y s.bays w = free_of w (m.inside w w-in) (m.unheld w w-in) in
          let k = walk-ring Y s.bays Y.bays e (on (ring-walk Y s.bays Y.bays e t u u-near) (joined-sym Y w u rail) free-w) (omega (arith, fits)) in
          elim (dec_lt k.0 (suc t)) [
            | yes l ↦ not-both k.2 (f w k.0 w-before (omega arith))
            | no l ↦ let same : k.0 ≡ suc t = omega (arith, k.1) in rw same at k.2
          ]

      -- a bay as near to e as u is, to which an earlier bay leads, or w and it is lower, would stand before u
      nowhere : (l z : ℕ) → (l < p.place) ⊎ ((l ≡ p.place) × (z < u)) → joined s.yard (get_or queue l 0) z ≡ true → In z (near t) → ⊥
      nowhere l z o r i =
          let low : l < length queue = ⊎_elim (λ g. omega (arith, p.earlier)) (λ g. omega (arith, p.earlier, g.0)) o in
          let k = leads l z low r (around-free s.yard s.bays e free-e t z i) in
          not-both i (f z t (p.first l z k.0 o k.1) (omega arith))

      first-further : First p.place (suc t)
      first-further b k i h = elim (ℕ_discrete k (suc t)) [
        | no o ↦
            let l = in-before queue p.place b (omega (arith, p.earlier)) i in
            rw l.2 at (f (get_or queue l.0 0) k (before-in queue l.0 j (omega (arith, l.1, p.earlier)) (omega arith)) (omega arith))
        | yes o ↦ by_cases (elem b (near k))
            (λ y.
            let l = in-before queue p.place b (omega (arith, p.earlier)) i in
            let z = next s.yard s.bays e t b (rw o at y) in
            absurd (nowhere l.0 z.bay (inl l.1) (rw l.2 z.rail) z.nearer))
            (λ y. y)
      ]

      goes_on : inward s.yard (rings s.yard s.bays e) (suc t) w ≡ w ∷ inward s.yard (rings s.yard s.bays e) t u
      goes_on =
          let z = next s.yard s.bays e t w further in
          let least : z.bay ≤ u = lowest-least (joined s.yard w) (near t) z.found u u-near rail in
          elim (dec_lt z.bay u) [
            | yes l ↦ absurd (nowhere p.place z.bay (inr (refl, l)) z.rail z.nearer)
            | no l ↦ let same : z.bay ≡ u = omega arith in rw same at z.goes_on
          ]

    -- u is t rails from e and the first of those, and what follows it is the path on to e
    traced : (i t j : ℕ) (rest : List ℕ) → i + t ≡ d → j < length queue → First j t → In (get_or queue j 0) (near t)
        → get_or queue j 0 ∷ rest ≡ inward s.yard (rings s.yard s.bays e) t (get_or queue j 0)
        → back before i (get_or queue j 0) rest ≡ inward s.yard (rings s.yard s.bays e) d x
    unfolding back
    traced zero t j rest sum hj f i r =
        let same : t ≡ d = omega arith in
        elim (dec_lt 0 j) [
          | yes h ↦ not-both x-far (f x d (rw m.starts at (before-in queue 0 j h (omega arith))) (omega arith))
          | no h ↦
              let z : j ≡ 0 = omega arith in
              let start : get_or queue j 0 ≡ x = rw z m.starts in
              r ∙ rw (same, start)
        ]
    traced (suc k) t j rest sum hj f i r =
        elim (dec_lt 0 j) [
          | yes h ↦
              let p = m.parent j h hj in
              let short : suc t ≤ d = omega arith in
              rw p.there
              (traced k (suc t) p.place (get_or queue j 0 ∷ rest) (omega arith) (omega (arith, p.earlier)) (first-further t j short hj f i p)
              (further t j short hj f i p) (sym (goes_on t j short hj f i p ∙ rw r)))
          | no h ↦
              let z : j ≡ 0 = omega arith in
              let start : get_or queue j 0 ≡ x = rw z m.starts in
              not-both (rw start at i) (rings-apart s.yard s.bays s.yard.bays [] (e ∷ []) t d x (omega arith) x-far)
        ]

    -- the path back from e is the paper's path from x to e
    pub path-back : In e queue → back before d e [] ≡ shortest_path s.yard s.bays x e
    path-back i =
        let Y = s.yard in
        let j : ℕ = place_of e queue in
        let hj : j < length queue = place_of-there queue e i in
        let at-e : get_or queue j 0 ≡ e = place_of-bay queue e i in
        let e-near : In e (near 0) = rw (ring-first Y s.bays e (omega (arith, fits))) (In-head e []) in
        let first : First j 0 =
        λ b k y h.
        let z : k ≡ 0 = omega arith in
        by_cases (elem b (near k))
        (λ l.
        let same : b ≡ e = ring-zero Y s.bays Y.bays [] e b (rw z at l) in
        not-both (rw same at y) (rw at-e at (once-before queue j m.once hj)))
        (λ l. l) in
        rw at-e at (traced d 0 j [] (omega arith) hj first (rw at-e e-near) (rw at-e (sym (inward-zero Y (rings Y s.bays e) e))))
        ∙ sym (shortest-far Y s.bays x e d free-x there)
