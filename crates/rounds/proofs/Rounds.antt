-- Round after round the set is the next ring: of the bays that were met none is further, and all that are nearer were seen before. So the
-- path back from each of its bays is the paper's; and where nothing new was met, no ring follows.
-- Assumes nothing.
use mathlib.Core.Path.{◌≡◌, sym, ap, ◌∙◌}
use mathlib.Core.Bool.{true, false, not}
use mathlib.Core.List.{List, [], ◌∷◌}
use Prim.Native.Nat.{ℕ, ◌+◌, ◌-◌, ◌≤◌, ◌<◌}
use native.Mathlib.Decide.{ℕ_discrete}
use native.Mathlib.Omega.{arith}
use lib.Dec.{eqb}
use lib.ListN.{length, take}
use borrow.Author.Tests.{not-true}
use Rattle.paper.specs.Basics.{◌and◌, ◌or◌, elem, In, Out}
use Rattle.paper.specs.Yard.{Bay}
use Rattle.paper.specs.Path.{shortest_path}
use Rattle.paper.proofs.Tests.{by_cases, not-both, and_left, and_right, and_both, or_left, or_right, or_cases}
use Rattle.paper.proofs.Rings.{rings-apart}
use Rattle.words.specs.Sets.{mem, span, Kept}
use Rattle.words.proofs.Sets.{row_zero}
use Rattle.rings.specs.Search.{Shown, ring_on}
use Rattle.rings.proofs.Searching.{elem-one, in-yard}
use Rattle.queue.specs.Meeting.{back}
use Rattle.queue.specs.Queue.{Low, Met}
use Rattle.ways.proofs.Passing.{Within, first-ring, start-within, start-met, wider, all-dry}
use Rattle.ways.proofs.Tracing.{path-back}
use Rattle.rounds.specs.Rounds.{RingSays}

-- the ring that is left once what was seen before is taken away
pub ring-left : (none ring seen last seen' ring₁ ring' : List ℕ) → Kept none 0 seen last → Kept ring 0 seen' ring₁ → ((b : ℕ) → mem ring' b ≡ mem ring₁ b and not (mem last b))
    → (b : ℕ) → b < span → mem ring' b ≡ mem seen' b and not (mem seen b)
ring-left none ring seen last seen' ring₁ ring' k k' f b h = f b ∙ rw (sym (row_zero ring₁ b) ∙ k'.row b h, sym (row_zero last b) ∙ k.row b h)

-- the search stands at ring d, and the bays of the queue from `done` on are that ring
pub record Rounds {n : ℕ} {table held : List ℕ} (s : Shown n table held) (x : Bay) (d : ℕ) (seen ring met before : List ℕ) (done count : ℕ) : Type 0 where
  pub queue : Met n table held x seen (take count met) before done
  pub within : Within s x d (take count met)
  pub near : d ≤ done
  pub ringing : (y : ℕ) → y < span → mem ring y ≡ elem y (ring_on s x d)

module _ {n : ℕ} {table held : List ℕ} (s : Shown n table held) (most : n ≤ span) (x : Bay) (hx : x < n) (unheld : mem held x ≡ false) where
  -- it stands at x alone at first
  pub rounds-first : (seen ring met before : List ℕ) → Low before → ((b : ℕ) → b < span → mem seen b ≡ mem held b or eqb b x) → ((b : ℕ) → mem ring b ≡ eqb b x)
      → take 1 met ≡ x ∷ [] → Rounds s x 0 seen ring met before 0 1
  rounds-first seen ring met before low f g first = record {
    queue = rw first (start-met s x hx unheld seen before low f);
    within = rw first (start-within s x hx);
    near = omega arith;
    ringing = λ y h. g y ∙ rw (first-ring s x hx, elem-one y x);
  }

  module _ (d : ℕ) {seen ring met before : List ℕ} {done count : ℕ} (g : Rounds s x d seen ring met before done count) where
    -- the path back from a bay of the ring is the paper's
    pub path-of : (v : Bay) → In v (ring_on s x d) → back before d v [] ≡ shortest_path s.yard s.bays x v
    path-of v i = path-back s most x v d g.queue hx unheld i (g.within.holds d v (omega arith) i)

    module _ {seen' ring' met' before' : List ℕ} {r : ℕ} (p : RingSays n done count table seen met before seen' ring' met' before' r) (some_left : done < count) (room : n ≤ length met') where
      -- where nothing is new, no bay is further
      pub rounds-dry : r ≡ count → (k b : ℕ) → d < k → In b (ring_on s x k) → ⊥
      rounds-dry e k b h i =
          let z : k ≡ (k - (d + 1)) + (d + 1) = omega arith in
          all-dry s most x hx d g.within (omega (arith, g.near)) (p.passed _ _ g.queue) room e (k - (d + 1)) b (rw z at i)

      module _ (grew : count < r) where
        widened : Within s x (d + 1) (take r met')
        widened = wider s most x hx d g.within (omega (arith, g.near)) (p.passed _ _ g.queue) room grew

        -- a bay of the next ring was met just now
        newly : (b : ℕ) → b < span → In b (ring_on s x (d + 1)) → mem ring' b ≡ true
        newly b h i =
            let q = (p.passed _ _ g.queue).queue in
            let y : In b (take r met') = widened.holds (d + 1) b (omega arith) i in
            let fresh : mem seen b ≡ false =
            by_cases (mem seen b)
            (λ t. or_cases (mem held b) (elem b (take count met)) (sym (g.queue.seeing b h) ∙ t)
            (λ o. not-both o (q.unheld b y))
            (λ o.
            let k = g.within.only b o in
            not-both k.2 (rings-apart s.yard s.bays s.yard.bays [] (x ∷ []) k.0 (d + 1) b (omega (arith, k.1)) i)))
            (λ o. o) in
            p.ringed b h ∙ and_both _ _ (q.seeing b h ∙ or_right _ _ y) (ap not fresh)

        -- a bay that was met just now is of the next ring
        further : (b : ℕ) → b < span → mem ring' b ≡ true → In b (ring_on s x (d + 1))
        further b h t =
            let q = (p.passed _ _ g.queue).queue in
            let both = sym (p.ringed b h) ∙ t in
            let fresh : mem seen b ≡ false = not-true _ (and_right _ _ both) in
            or_cases (mem held b) (elem b (take r met')) (sym (q.seeing b h) ∙ and_left _ _ both)
            (λ o. not-both (g.queue.seeing b h ∙ or_left _ _ o) fresh)
            (λ o.
            let k = widened.only b o in
            elim (ℕ_discrete k.0 (d + 1)) [
              | yes e ↦ rw e at k.2
              | no e ↦ not-both (g.queue.seeing b h ∙ or_right _ _ (g.within.holds k.0 b (omega (arith, k.1)) k.2)) fresh
            ])

        -- otherwise it stands at the next ring then
        pub rounds-more : Rounds s x (d + 1) seen' ring' met' before' count r
        rounds-more = record {
          queue = (p.passed _ _ g.queue).queue;
          within = widened;
          near = omega (arith, g.near);
          ringing = λ y h.
              by_cases (elem y (ring_on s x (d + 1)))
              (λ i. newly y h i ∙ sym i)
              (λ o. by_cases (mem ring' y) (λ t. not-both (further y h t) o) (λ t. t ∙ sym o));
        }
