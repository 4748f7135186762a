-- The numbers of a link stand for a sound reading, whatever they are; and the numbers that a reading leaves stand for it again.
use mathlib.Core.Path.{◌≡◌, refl, sym, ◌∙◌, ap, ap₂}
use mathlib.Core.Bool.{Bool, true, false}
use mathlib.Core.List.{List, [], ◌∷◌, ◌++◌}
use Prim.Native.Nat.{ℕ, zero, suc, ◌+◌, ◌-◌, ◌≤◌}
use native.Mathlib.Omega.{arith}
use lib.Dec.{eqb}
use lib.ListN.{length, take, drop, take-append-drop}
use lib.Seq.{sets, sets-eq, length-take-le}
use borrow.Author.Tests.{ne_eqb}
use Rattle.lists.proofs.Lists.{no_length}
use Rattle.paper.specs.Limits.{most_carriers}
use Rattle.paper.specs.Yard.{Bay}
use Rattle.paper.specs.Bytes.{failed, going, in_version, in_carrier}
use Rattle.paper.proofs.Tests.{by_cases}
use Rattle.stores.specs.Writing.{Wrote}
use Rattle.stores.proofs.Stores.{wrote-stands}
use Rattle.carrier_lists.proofs.Counting.{count-few, count_same}
use Rattle.scenario.specs.declared.Reading.{Reading}
use Rattle.scenario.specs.Under.{Sound, state_of, starts_of, goals_of, Stored}
use Rattle.link.specs.declared.UnderWay.{UnderWay}
use Rattle.link.specs.declared.Link.{Link}
use Rattle.link.specs.Link.{yes_of, bit_of, reading_in, pairs, carriers_in, in_broken, under_way_of, under_way_by, carriers_by}

-- ## Numbers
pub yes-bit : (b : Bool) → yes_of (bit_of b) ≡ b
yes-bit true = refl
yes-bit false = refl

pub sound-in : (k : UnderWay) → Sound (reading_in k)
sound-in k = record { first = λ v. rw v; few = count-few (yes_of k.version) k.count }

-- ## Starts and goals side by side
pairs-length : (k : ℕ) (a b : List ℕ) → k ≤ length a → k ≤ length b → length (pairs (take k a) (take k b)) ≡ k
unfolding pairs
pairs-length zero a b h i = refl
pairs-length (suc k) [] b h i = absurd (omega arith)
pairs-length (suc k) (x ∷ a) [] h i = absurd (omega arith)
pairs-length (suc k) (x ∷ a) (y ∷ b) h i = ap suc (pairs-length k a b (omega arith) (omega arith))

pairs-starts : (k : ℕ) (a b : List ℕ) → k ≤ length a → k ≤ length b → starts_of (pairs (take k a) (take k b)) ≡ take k a
unfolding pairs
pairs-starts zero a b h i = refl
pairs-starts (suc k) [] b h i = absurd (omega arith)
pairs-starts (suc k) (x ∷ a) [] h i = absurd (omega arith)
pairs-starts (suc k) (x ∷ a) (y ∷ b) h i = ap (λ l. x ∷ l) (pairs-starts k a b (omega arith) (omega arith))

pairs-goals : (k : ℕ) (a b : List ℕ) → k ≤ length a → k ≤ length b → goals_of (pairs (take k a) (take k b)) ≡ take k b
unfolding pairs
pairs-goals zero a b h i = refl
pairs-goals (suc k) [] b h i = absurd (omega arith)
pairs-goals (suc k) (x ∷ a) [] h i = absurd (omega arith)
pairs-goals (suc k) (x ∷ a) (y ∷ b) h i = ap (λ l. y ∷ l) (pairs-goals k a b (omega arith) (omega arith))

pairs_of : (cs : List (Bay × Bay)) → pairs (starts_of cs) (goals_of cs) ≡ cs
unfolding pairs
pairs_of [] = refl
pairs_of (c ∷ cs) = ap (λ l. c ∷ l) (pairs_of cs)

sets_same : (k : ℕ) (l : List ℕ) → k ≤ length l → sets l 0 (take k l) ≡ l
sets_same k l h =
    let n = length-take-le k l h in
    let j : 0 + length (take k l) ≡ k = omega arith in
    sets-eq (take k l) l 0 (omega arith) ∙ ap (λ j. take k l ++ drop j l) j ∙ take-append-drop k l

wrote-first : (k : ℕ) (l t : List ℕ) → k ≤ length l → t ≡ take k l → Wrote l 0 t l k
wrote-first k l t h e = record { left = sym (ap (sets l 0) e ∙ sets_same k l h); counted = omega (arith, ap length e, length-take-le k l h) }

-- the carriers that a link says stand in its lists
pub stored-in : (l : Link) → length l.start ≡ most_carriers → length l.goal ≡ most_carriers → Stored (carriers_in l) (reading_in l.line) l.start l.start l.goal l.goal
stored-in l a b =
    let k : ℕ = (reading_in l.line).count in
    let f : (reading_in l.line).count ≤ most_carriers = count-few (yes_of l.line.version) l.line.count in
    let h : (reading_in l.line).count ≤ length l.start = omega (arith, a, f) in
    let i : (reading_in l.line).count ≤ length l.goal = omega (arith, b, f) in
    record {
      count = pairs-length (reading_in l.line).count l.start l.goal h i;
      starts_wrote = wrote-first (reading_in l.line).count l.start _ h (pairs-starts (reading_in l.line).count l.start l.goal h i);
      goals_wrote = wrote-first (reading_in l.line).count l.goal _ i (pairs-goals (reading_in l.line).count l.start l.goal h i);
    }

-- ## What a reading leaves
module _ (r : Reading) (o : Sound r) (cs : List (Bay × Bay)) where
  -- it is what the state asks for,
  pub under-way-state : length cs ≡ r.count → under_way_of r ≡ under_way_by (state_of r cs)
  under-way-state h =
      by_cases r.failed
      (λ e. by_cases r.version
      (λ f. rw (e, f, o.first f))
      (λ f.
      let q : false ≡ eqb (suc (suc r.count)) 1 = sym (ne_eqb (suc (suc r.count)) 1 (λ z. omega arith)) in
      let p : r.count ≡ suc (suc r.count) - 2 = omega arith in
      rw (e, f) (λ i. in_broken (p i) 1 (bit_of (q i)))))
      (λ e. by_cases r.version (λ f. rw (e, f, o.first f)) (λ f. rw (e, f, h)))

  pub carriers-broken : r.failed ≡ true → carriers_by (state_of r cs) ≡ []
  carriers-broken e = rw e

  pub carriers-on : r.failed ≡ false → length cs ≡ r.count → carriers_by (state_of r cs) ≡ cs
  carriers-on e h = by_cases r.version (λ f. rw (e, f) (sym (no_length cs (h ∙ o.first f)))) (λ f. rw (e, f))

  -- and stands for it again
  pub state-again : (ds : List (Bay × Bay)) → (r.failed ≡ false → r.version ≡ false → ds ≡ cs) → state_of (reading_in (under_way_of r)) ds ≡ state_of r cs
  state-again ds h =
      by_cases r.failed
      (λ e. by_cases r.version (λ f. rw (e, f)) (λ f. rw (e, f) (ap (λ n. failed (suc (suc n))) (count_same r.count o.few))))
      (λ e. by_cases r.version
      (λ f. rw (e, f) (λ i. going 1 (yes-bit r.begun i) (yes-bit r.held i) (in_version (record { place = r.text.place; agrees = yes-bit r.text.agrees i }))))
      (λ f.
      let c = count_same r.count o.few in
      let q = h e f in
      rw (e, f) (λ i. going (suc (suc (c i))) (yes-bit r.begun i) (yes-bit r.held i)
      (in_carrier (q i) (record { index = r.past.index; well = yes-bit r.past.well i; sx = r.past.sx; sy = r.past.sy; gx = r.past.gx; gy = r.past.gy })
      (record { place = r.field.place; number = r.field.number; digits = yes-bit r.field.digits i; point = yes-bit r.field.point i; plain = yes-bit r.field.plain i; figure = yes-bit r.field.figure i })))))

  -- the carriers stored are those that the numbers say
  pub carriers-again : {a b a' b' : List ℕ} → Stored cs r a b a' b' → length a ≡ most_carriers → length a' ≡ most_carriers → r.failed ≡ false → r.version ≡ false
      → pairs (take (reading_in (under_way_of r)).count b) (take (reading_in (under_way_of r)).count b') ≡ cs
  carriers-again {a} {b} {a'} {b'} w m n e f =
      let c : (reading_in (under_way_of r)).count ≡ r.count = rw (e, f) (count_same r.count o.few) in
      (λ i. pairs (take (c i) b) (take (c i) b'))
      ∙ ap₂ pairs (wrote-stands w.starts_wrote (omega (arith, m, o.few))) (wrote-stands w.goals_wrote (omega (arith, n, o.few)))
      ∙ pairs_of cs
