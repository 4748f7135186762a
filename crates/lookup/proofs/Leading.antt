-- Going from x to e, the lowest bay that is one rail nearer to e with no bay held, and is not held itself, is taken each time. If this ends at e, then
-- each bay taken is as near with the held bays, so it is the next of the paper's path with them; and the last is e itself.
-- Assumes nothing.
use mathlib.Core.Path.{◌≡◌, sym, ◌∙◌}
use mathlib.Core.Bool.{true, false, not}
use mathlib.Core.List.{List, [], ◌∷◌, ◌++◌, append_assoc}
use Prim.Native.Nat.{ℕ, suc, ◌+◌, ◌-◌, ◌*◌, ◌≤◌, ◌<◌}
use native.Mathlib.Nat.{add-zero}
use native.Mathlib.Numerals.{add-one}
use native.Mathlib.Omega.{arith}
use lib.ListN.{length, set, take, drop, length-set}
use lib.Seq.{take-suc-set}
use Rattle.paper.specs.Basics.{◌and◌, In}
use Rattle.paper.specs.Yard.{Bay, Yard, joined}
use Rattle.paper.specs.Path.{rings, inward}
use Rattle.paper.proofs.Rings.{joined-sym, ring-zero, Walk, here, on, ring-walk, walk-free}
use Rattle.paper.proofs.Shortest.{next, inward-zero}
use Rattle.words.specs.Sets.{mem, mem_row, words, span, Lowest}
use Rattle.words.proofs.Sets.{row_zero}
use Rattle.levels.proofs.Levels.{row-part}
use Rattle.rings.specs.Search.{around}
use Rattle.lookup.specs.Told.{Distant, Led}
use Rattle.lookup.proofs.Levelling.{fewer-fit, free-inside, inside, ring-far, held-ring, next-near, next-bay}

-- row a of the table, lent as a part of it
abbrev pub lent_row : List ℕ → ℕ → List ℕ
lent_row table a = take (a * words + words - a * words) (drop (a * words) table)

lowest-row : (table held : List ℕ) (a u r : ℕ) → Lowest (λ b. mem_row table u b and (mem (lent_row table a) b and not (mem held b))) 0 span r
    → Lowest (λ b. mem_row table u b and (mem_row table a b and not (mem held b))) 0 span r
lowest-row table held a u r l =
    let row : (b : ℕ) → b < span → mem (lent_row table a) b ≡ mem_row table a b =
    λ b k. sym (row_zero _ b) ∙ (rw (add-zero a) at (row-part table (a * words + words - a * words) a 0 b (omega arith) k)) in
    record {
      from = l.from;
      upto = l.upto;
      hit = λ k. rw (row r k) at (l.hit k);
      before = λ b low k. rw (row b (omega (arith, l.upto))) at (l.before b low k);
    }

module _ {n : ℕ} {table held : List ℕ} {x e d : ℕ} (t : Distant n table held x e d) where
  abbrev Y : Yard
  Y = t.shown.yard

  abbrev bays : List Bay
  bays = t.shown.bays

  -- the paper's path with the held bays, from u on
  abbrev onward : ℕ → Bay → List Bay
  onward k u = inward Y (rings Y bays e) k u

  -- i bays are in the room, and u is the next; if a path leads on from u that is as short with the held bays, these begin the path from x
  pub record Leading (i u : ℕ) (room : List ℕ) : Type 0 where
    pub near : In u (around Y [] e (d - i))
    pub unheld : mem held u ≡ false
    pub so_far : In u (around Y bays e (d - i)) → In x (around Y bays e d) × (onward d x ≡ take i room ++ onward (d - i) u)

  pub leading-first : (room : List ℕ) → mem held x ≡ false → Leading 0 x room
  leading-first room h =
      let z : d - 0 ≡ d = omega arith in
      record { near = rw z t.far; unheld = h; so_far = λ k. (rw z at k, rw z) }

  module _ (most : n ≤ span) where
    near-inside : (k u : ℕ) → In u (around Y [] e k) → u < n
    near-inside k u i =
        let w = ring-walk Y [] Y.bays e k u i in
        inside t.shown.joins most u (walk-free Y [] (free-inside t.shown.joins most e t.home) w).0

    module _ (i u : ℕ) (room : List ℕ) (g : Leading i u room) where
      pub leading-inside : u < n
      leading-inside = near-inside (d - i) u g.near

      -- beside a bay that is a rail nearer with the held bays, u is as near with them
      beside-near : (k r : ℕ) → d - i ≡ suc k → joined Y u r ≡ true → Walk Y bays e k r → In u (around Y bays e (suc k))
      beside-near k r same rail w =
          let h = leading-inside in
          let free = free-inside t.shown.joins most u h in
          let out = sym (t.shown.holds u (omega arith)) ∙ g.unheld in
          let far = ring-far t.shown.joins most t.levels e t.home (rw same at g.near) in
          held-ring t.shown.joins most t.levels e t.home bays far (on w (joined-sym Y u r rail) (free.0, out))

      -- the lowest bay beside u that is one rail nearer and not held
      pub leading-more : (r : ℕ) → d * n * words ≤ length table → i + 1 < d → i < length room
          → Lowest (λ b. mem_row table u b and (mem (lent_row table ((d - 2 - i) * n + e)) b and not (mem held b))) 0 span r
          → r < span → Leading (i + 1) r (set room i u)
      leading-more r fits h len l found =
          let k : ℕ = d - 2 - i in
          let far : d - i ≡ suc (suc k) = omega arith in
          let nearer : d - (i + 1) ≡ suc k = omega arith in
          let below = fewer-fit d n (k + 1) fits (omega arith) in
          let lowest = lowest-row table held (k * n + e) u r l in
          let there = rw far at g.near in
          let z = next-near t.shown.joins most t.levels e t.home held k u r below leading-inside there lowest found in
          record {
            near = rw nearer z.2;
            unheld = z.1;
            so_far = λ q.
                let r-in : In r (around Y bays e (suc k)) = rw nearer at q in
                let u-in = beside-near (suc k) r far z.0 (ring-walk Y bays Y.bays e (suc k) r r-in) in
                let s = next Y bays e (suc k) u u-in in
                let same = next-bay t.shown.joins most t.levels e t.home held k u r below leading-inside there lowest bays t.shown.holds s z.0 r-in in
                let before = g.so_far (rw far u-in) in
                (before.0, before.1 ∙ rw (far, s.goes_on, same, nearer, add-one, take-suc-set room i u len, append_assoc));
          }

      -- after the bay beside e comes e
      pub leading-all : i + 1 ≡ d → d < length room → Led t (set (set room i u) d e)
      leading-all h len =
          let one : d - i ≡ suc 0 = omega arith in
          let long : d ≡ suc i = omega arith in
          let room' : List ℕ = set room i u in
          let len' : d < length room' = rw (length-set room i u) len in
          let first : take (d + 1) (set room' d e) ≡ take d room' ++ (e ∷ []) = rw (add-one, take-suc-set room' d e len') in
          let last : take d room' ≡ take i room ++ (u ∷ []) = rw (long, take-suc-set room i u (omega arith)) in
          let p = next Y [] e 0 u (rw one at g.near) in
          let beside : joined Y u e ≡ true = rw (ring-zero Y [] Y.bays [] e p.bay p.nearer) at p.rail in
          let u-in = beside-near 0 e one beside here in
          let s = next Y bays e 0 u u-in in
          let end : s.bay ≡ e = ring-zero Y bays Y.bays [] e s.bay s.nearer in
          let whole = g.so_far (rw one u-in) in
          record {
            near = whole.0;
            path = rw (first, last) (sym (whole.1 ∙ rw (one, s.goes_on, end, inward-zero, append_assoc)));
          }
