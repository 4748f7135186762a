-- Ring by ring, each ring rising, is nearest first with ties to the lowest: so the first bay that fits is the paper's, and its trial is
-- the swap.
-- Assumes nothing.
use Rattle.std.proofs.Common.{None, Some}
use mathlib.Core.Path.{◌≡◌, sym, ◌∙◌, ap, refl}
use mathlib.Core.Bool.{Bool, true, false}
use mathlib.Core.List.{List, [], ◌∷◌}
use mathlib.Core.Option.{none, some}
use Prim.Native.Nat.{ℕ, suc, ◌≤◌, ◌<◌, ◌+◌, ◌-◌, zero}
use native.Mathlib.Omega.{arith}
use lib.ListN.{length, get_or}
use native.Mathlib.Decide.{ℕ_discrete, dec_lt}
use Rattle.paper.specs.Basics.{◌and◌, ◌>>=◌, filter, find, concat, first_of, elem, In}
use Rattle.paper.specs.Path.{rings, nearest_first, ring_of}
use Rattle.paper.specs.Procedure.{Made, trial, swap}
use Rattle.paper.specs.Yard.{Bay, Carrier, Yard, Placement, bay_of, junction}
use Rattle.paper.proofs.Members.{find-passes, find-in, find-some, nothing-in-nil, in_count, none-find}
use Rattle.paper.proofs.Nearest.{find-here, find-later}
use Rattle.paper.proofs.Rings.{ring-step, distance-in, in-concat, reached-sym}
use Rattle.paper.proofs.Shortest.{Rising, find-lowest, rings-rise}
use Rattle.paper.proofs.Tests.{by_cases, by-option, not-both, and_right, and_both, never}
use Rattle.docket.specs.Reading.{is_some}
use Rattle.words.specs.Sets.{mem, span, Lowest}
use Rattle.rings.proofs.Searching.{in-yard}
use Rattle.moving.specs.Bounds.{swap_most}
use Rattle.acting.specs.Acting.{Tabled, nothing, Within}
use Rattle.acting.specs.declared.Tally.{Tally}
use Rattle.acting.specs.Tried.{Tried}
use Rattle.trial.specs.FromBelow.{Logged, Attempts}
use Rattle.trial.proofs.Attempting.{attempts-none, attempts-some}
use Rattle.trial.specs.Trying.{Beside, Near}
use Rattle.trial.proofs.Copying.{free_shown}
use Rattle.near.specs.Seeking.{fitting, TriedAt, NoneNear, NearSays}
use Rattle.near.specs.declared.Nearby.TheVariants.{Found, Farther, Nowhere}

first_found : (Y : Yard) (r s : Carrier) (p : Placement) (l : List Bay)
    → first_of (λ v. trial Y r s v p) (filter (junction Y) l) ≡ (find (fitting Y r s p) l >>= λ v. trial Y r s v p)
unfolding first_of filter find fitting ◌and◌
first_found Y r s p [] = refl
first_found Y r s p (x ∷ l) =
    by_cases (junction Y x)
    (λ e. by-option (trial Y r s x p)
    (λ d. rw (e, d) (first_found Y r s p l))
    (λ xs d. rw (e, d) (sym d)))
    (λ e. rw e (first_found Y r s p l))

-- the swap is the trial at the bay found
pub swap-found : (Y : Yard) (r s : Carrier) (p : Placement) → swap Y r s p ≡ (find (fitting Y r s p) (nearest_first Y [] (bay_of p r)) >>= λ v. trial Y r s v p)
unfolding swap
swap-found Y r s p = first_found Y r s p (nearest_first Y [] (bay_of p r))

module _ (Y : Yard) (r s : Carrier) (p : Placement) where
  pub swap-none : {log : List ℕ} → none ≡ find (fitting Y r s p) (nearest_first Y [] (bay_of p r)) → Attempts (swap Y r s p) log None
  swap-none f = attempts-none (swap-found Y r s p ∙ rw (← f))

  pub swap-some : {v : Bay} {log : List ℕ} {m : Tally} → some v ≡ find (fitting Y r s p) (nearest_first Y [] (bay_of p r)) → (made : Made) × (trial Y r s v p ≡ some made) × Logged made log m
      → Attempts (swap Y r s p) log (Some m)
  swap-some f q = attempts-some (swap-found Y r s p ∙ rw (← f) q.1) q.2

pub fitting-not : (Y : Yard) (r s : Carrier) (p : Placement) (v : Bay) → junction Y v ≡ false → fitting Y r s p v ≡ false
unfolding fitting ◌and◌
fitting-not Y r s p v e = rw e

fitting-tried : (Y : Yard) (r s : Carrier) (v : Bay) (p : Placement) {made : Made} → junction Y v ≡ true → trial Y r s v p ≡ some made → fitting Y r s p v ≡ true
unfolding fitting
fitting-tried Y r s v p j e = and_both _ _ j (rw e)

fitting-failed : (Y : Yard) (r s : Carrier) (v : Bay) (p : Placement) → trial Y r s v p ≡ none → fitting Y r s p v ≡ false
unfolding fitting
fitting-failed Y r s v p e = by_cases (junction Y v and is_some (trial Y r s v p)) (λ f. not-both (rw e at (and_right _ _ f)) refl) (λ f. f)

-- ## The log

-- what the trial leaves in the log that it was lent
pub tried-at : (Y : Yard) (r s : Carrier) (v : Bay) (p log : List ℕ) {z : Tried} → junction Y v ≡ true → Attempts (trial Y r s v p) log z → TriedAt Y r s v p log z
tried-at Y r s v p log j w = record {
  fails = λ e. fitting-failed Y r s v p (w.fails e);
  fits = λ m e. fitting-tried Y r s v p j (w.done m e).1;
  logged = w.done;
}

-- a bay that is no junction is not tried
pub tried-not : (Y : Yard) (r s : Carrier) (v : Bay) (p log : List ℕ) → junction Y v ≡ false → TriedAt Y r s v p log None
tried-not Y r s v p log j = record { fails = λ e. fitting-not Y r s p v j; fits = λ m e. never (cc); logged = λ m e. never (cc) }

-- a trial that is bound to fail is not made
pub tried-never : (Y : Yard) (r s : Carrier) (v : Bay) (p log : List ℕ) → trial Y r s v p ≡ none → TriedAt Y r s v p log None
tried-never Y r s v p log h = record { fails = λ e. fitting-failed Y r s v p h; fits = λ m e. never (cc); logged = λ m e. never (cc) }

-- ## Ring by ring

module _ (q : ℕ → Bool) where
  find-rings : (rs : List (List ℕ)) (r e : ℕ) → ((i b : ℕ) → i < r → In b (get_or rs i []) → q b ≡ false) → find q (get_or rs r []) ≡ some e → find q (concat rs) ≡ some e
  unfolding concat
  find-rings [] r e f h = unfold find in h
  find-rings (l ∷ rs) zero e f h = find-here q l (concat rs) h
  find-rings (l ∷ rs) (suc r) e f h =
      find-later q l (concat rs) (none-find q l (λ b i. f 0 b (omega arith) i))
      ∙ find-rings rs r e (λ i b k y. f (suc i) b (omega arith) y) h

  find-is : (l : List ℕ) (e : ℕ) → Rising l → In e l → q e ≡ true → ((b : ℕ) → In b l → b < e → q b ≡ false) → find q l ≡ some e
  find-is l e r i h f =
      let y = find-some q l e i h in
      let low : y.0 ≤ e = find-lowest q l y.0 e r y.1 i h in
      elim (dec_lt y.0 e) [
        | yes k ↦ not-both (find-passes q l y.1) (f y.0 (find-in q l y.1) k)
        | no k ↦ let same : y.0 ≡ e = omega arith in y.1 ∙ ap some same
      ]

-- none of the bays below v in ring d, and none of the rings before it
pub record Sought (Y : Yard) (r s : Carrier) (p : Placement) (d v : ℕ) : Type 0 where
  pub rings-before : (i b : ℕ) → i < d → In b (get_or (rings Y [] (bay_of p r)) i []) → fitting Y r s p b ≡ false
  pub below : (b : ℕ) → In b (get_or (rings Y [] (bay_of p r)) d []) → b < v → fitting Y r s p b ≡ false

module _ {n : ℕ} {table : List ℕ} (t : Tabled n table) (r s : Carrier) (p : Placement) where
  abbrev rs : List (List Bay)
  rs = rings t.yard [] (bay_of p r)

  pub sought-first : Sought t.yard r s p 0 0
  sought-first = record { rings-before = λ i b h. absurd (omega arith); below = λ b i h. absurd (omega arith) }

  pub sought-found : (d v : ℕ) → Sought t.yard r s p d v → In v (get_or rs d []) → fitting t.yard r s p v ≡ true
      → some v ≡ find (fitting t.yard r s p) (nearest_first t.yard [] (bay_of p r))
  sought-found d v g i h =
      sym (find-rings (fitting t.yard r s p) rs d v g.rings-before
      (find-is (fitting t.yard r s p) (get_or rs d []) v (rings-rise t.yard [] (bay_of p r) d) i h g.below))

  -- no bay is further
  pub sought-end : (d : ℕ) → ((k b : ℕ) → d < k → In b (get_or rs k []) → ⊥) → Sought t.yard r s p (d + 1) 0
      → none ≡ find (fitting t.yard r s p) (nearest_first t.yard [] (bay_of p r))
  sought-end d h g =
      sym (none-find (fitting t.yard r s p) (concat rs) (λ b i.
      let e : ℕ = ring_of t.yard b rs in
      let y : In b (get_or rs e []) = distance-in t.yard b rs i in
      elim (dec_lt d e) [
        | yes m ↦ absurd (h e b m y)
        | no m ↦ g.rings-before e b (omega arith) y
      ]))

  -- where a ring has no bay, no ring after it has one
  ring-dry : (d : ℕ) → ((b : ℕ) → In b (get_or rs d []) → ⊥) → (k b : ℕ) → In b (get_or rs (k + d) []) → ⊥
  ring-dry d dry zero b i = let z : 0 + d ≡ d = omega arith in dry b (rw z at i)
  ring-dry d dry (suc k) b i =
      let z : suc k + d ≡ suc (k + d) = omega arith in
      let a = ring-step t.yard [] t.yard.bays [] (bay_of p r ∷ []) (k + d) b (rw z at i) in
      ring-dry d dry k a.0 a.1

  pub sought-dry : (d : ℕ) → ((b : ℕ) → In b (get_or rs d []) → ⊥) → Sought t.yard r s p (d + 1) 0
      → none ≡ find (fitting t.yard r s p) (nearest_first t.yard [] (bay_of p r))
  sought-dry d dry g = sought-end d (λ k b h i. let e : k ≡ k - d + d = omega arith in ring-dry d dry (k - d) b (rw e at i)) g

  module _ (most : n ≤ span) (hu : bay_of p r < n) where
    module _ (d : ℕ) (ring : List ℕ) (same : (y : ℕ) → y < span → mem ring y ≡ elem y (get_or rs d [])) where
      pub sought-start : (v : ℕ) → Sought t.yard r s p d 0 → Lowest (mem ring) 0 span v → Sought t.yard r s p d v
      sought-start v g l = record { rings-before = g.rings-before; below = λ b i h. not-both (same b (omega (arith, l.upto)) ∙ i) (l.before b (omega arith) h) }

      pub sought-more : (v w : ℕ) → Sought t.yard r s p d v → fitting t.yard r s p v ≡ false → Lowest (mem ring) (v + 1) span w → Sought t.yard r s p d w
      sought-more v w g e l = record {
        rings-before = g.rings-before;
        below = λ b i h. elim (dec_lt b v) [
          | yes k ↦ g.below b i k
          | no k ↦ elim (ℕ_discrete b v) [
            | yes z ↦ rw z e
            | no z ↦ not-both (same b (omega (arith, l.upto)) ∙ i) (l.before b (omega arith) h)
          ]
        ];
      }

      pub sought-next : (v : ℕ) → Sought t.yard r s p d v → span ≤ v → Sought t.yard r s p (d + 1) 0
      sought-next v g h = record {
        rings-before = λ i b k y. elim (dec_lt i d) [
          | yes m ↦ g.rings-before i b m y
          | no m ↦ let e : i ≡ d = omega arith in let y' = rw e at y in let hb : b < n = in-yard (free_shown t) (bay_of p r) most hu d b y' in g.below b y' (omega arith)
        ];
        below = λ b i k. absurd (omega arith);
      }

      -- the ring has no bay
      pub sought-nowhere : (v : ℕ) → Sought t.yard r s p d 0 → Lowest (mem ring) 0 span v → span ≤ v
          → none ≡ find (fitting t.yard r s p) (nearest_first t.yard [] (bay_of p r))
      sought-nowhere v g l h =
          sought-dry d
          (λ b i. let hb : b < n = in-yard (free_shown t) (bay_of p r) most hu d b i in not-both (same b (omega arith) ∙ i) (l.before b (omega arith) (omega arith)))
          (sought-next v (sought-start v g l) h)

    pub reached-from : (d v : ℕ) → In v (get_or rs d []) → In (bay_of p r) (nearest_first t.yard [] v)
    reached-from d v i = reached-sym t.yard [] (bay_of p r) v (in_count 0 t.yard.bays (bay_of p r) (omega arith) (omega (arith, t.joins.bays)), nothing-in-nil (bay_of p r)) (in-concat t.yard v rs d i)

    pub ring-low : (d v : ℕ) → In v (get_or rs d []) → v < n
    ring-low d v i = in-yard (free_shown t) (bay_of p r) most hu d v i

pub near_of : {Y : Yard} {r s : Carrier} {v : Bay} {p : Placement} → Beside Y r s p → In (bay_of p r) (nearest_first Y [] v) → Near Y r s v p
near_of b i = record { sound = b.sound; reached = i; beside = b.beside }

-- ## What is said

pub near-found : {r s : Carrier} {table p standing log : List ℕ} {m : Tally} → Within nothing swap_most (Some m)
    → ((t : Tabled (length standing) table) → Beside t.yard r s p → Attempts (swap t.yard r s p) log (Some m)) → NearSays r s table p standing log (Found m)
near-found {m = m} few f = record {
  few = λ k e. let same : m ≡ k = cc in rw same at few;
  found = λ k e. let same : m ≡ k = cc in rw same at f;
  farther = λ j e. never (cc);
  nowhere = λ e. never (cc);
}

pub near-farther : {r s : Carrier} {table p standing log : List ℕ} (k : ℕ)
    → ((t : Tabled (length standing) table) → Beside t.yard r s p → NoneNear t.yard r s p k) → NearSays r s table p standing log (Farther k)
near-farther k f = record {
  few = λ m e. never (cc);
  found = λ m e. never (cc);
  farther = λ j e. let same : k ≡ j = cc in rw same at f;
  nowhere = λ e. never (cc);
}

pub near-nowhere : {r s : Carrier} {table p standing log : List ℕ}
    → ((t : Tabled (length standing) table) → Beside t.yard r s p → Attempts (swap t.yard r s p) log None) → NearSays r s table p standing log Nowhere
near-nowhere f = record { few = λ m e. never (cc); found = λ m e. never (cc); farther = λ j e. never (cc); nowhere = λ e. f }
