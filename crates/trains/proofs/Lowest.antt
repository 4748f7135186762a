-- The train slots keep the two rules, and no numbering that keeps them gives any crossing a lower slot: each is one more than its carrier's
-- last or that of the latest leaving, whichever is higher. The first edition's slots keep the two rules, so they are no lower.
use mathlib.Core.Path.{◌≡◌, sym, ◌∙◌}
use mathlib.Core.Bool.{Bool, true, false}
use mathlib.Core.List.{List}
use Prim.Native.Nat.{ℕ, zero, suc, ◌<◌, ◌≤◌}
use native.Mathlib.Omega.{arith}
use lib.Dec.{ltb}
use lib.ListN.{length, get_or}
use borrow.Author.Tests.{ltb-true, ltb-false, eqb-true, eqb-false, eq-eqb, ne_eqb}
use Rattle.paper.specs.Yard.{Carrier, Crossing, named}
use Rattle.paper.specs.Dependence.{depend, slots}
use Rattle.paper.proofs.Tests.{by_cases, or_left, or_right}
use Rattle.paper.proofs.Members.{highest-above, highest-below}
use Rattle.paper.proofs.Slotting.{Numbering, slots-rise}
use Rattle.paper.proofs.Slotting as first
use Rattle.trains.specs.Slots.{latest, is_of, leaves, train_slot, train_slots, highest_slot}
use Rattle.trains.specs.Rules.{TwoRules}
use Rattle.trains.proofs.Meeting.{met_by, slot_at, slots_length, slot_is, met-none, met-on, highest_met, met-below}

module _ (xs : List Crossing) (test : Crossing → Bool) where
  -- where the latest one that passes the test is
  latest-by : {P : Type 0} (i : ℕ) → i ≤ length xs
      → (latest test (met_by xs i) ≡ 0 → P)
      → ((e : ℕ) → e < i → test (named xs e) ≡ true → ((k : ℕ) → e < k → k < i → test (named xs k) ≡ false)
      → latest test (met_by xs i) ≡ slot_at xs e → P)
      → P
  unfolding latest
  latest-by zero h f g = f (rw (met-none xs))
  latest-by (suc i) h f g =
      by_cases (test (named xs i))
      (λ t. g i (omega arith) t (λ k a b. absurd (omega arith)) (rw (met-on xs i (omega arith), t)))
      (λ t.
      let same : latest test (met_by xs (suc i)) ≡ latest test (met_by xs i) = rw (met-on xs i (omega arith), t) in
      latest-by i (omega arith)
      (λ z. f (same ∙ z))
      (λ e l q n z. g e (omega arith) q
      (λ k a b. by_cases (ltb k i) (λ c. n k a (ltb-true k i c)) (λ c. let w : k ≡ i = omega (arith, ltb-false k i c) in rw w t))
      (same ∙ z)))

  -- and the other way round
  latest-is : (e i : ℕ) → e < i → i ≤ length xs → test (named xs e) ≡ true → ((k : ℕ) → e < k → k < i → test (named xs k) ≡ false)
      → latest test (met_by xs i) ≡ slot_at xs e
  unfolding latest
  latest-is e zero l h q n = absurd (omega arith)
  latest-is e (suc i) l h q n =
      by_cases (ltb e i)
      (λ s.
      let t : test (named xs i) ≡ false = n i (ltb-true e i s) (omega arith) in
      rw (met-on xs i (omega arith), t) (latest-is e i (ltb-true e i s) (omega arith) q (λ k a b. n k a (omega arith))))
      (λ s.
      let same : i ≡ e = omega (arith, ltb-false e i s) in
      let t : test (named xs i) ≡ true = rw same q in
      rw (met-on xs i (omega arith), t, same))

-- a slot is above its carrier's last, and no lower than the latest leaving's
pub slot-above : (xs : List Crossing) (i : ℕ) → i < length xs
    → (latest (is_of (named xs i).carrier) (met_by xs i) < slot_at xs i) × (latest (leaves (named xs i).to) (met_by xs i) ≤ slot_at xs i)
unfolding train_slot
slot-above xs i h = let s = slot_is xs i h in (omega arith, omega arith)

-- a carrier's last slot is its highest
pub own-highest : (xs : List Crossing) (c : Carrier) (i : ℕ) → i ≤ length xs → highest_met (is_of c) (met_by xs i) ≤ latest (is_of c) (met_by xs i)
unfolding latest highest_met
own-highest xs c zero h = rw (met-none xs) (omega arith)
own-highest xs c (suc i) h =
    let ih = own-highest xs c i (omega arith) in
    rw (met-on xs i (omega arith))
    (by_cases (is_of c (named xs i))
    (λ e.
    let same : (named xs i).carrier ≡ c = eqb-true (named xs i).carrier c e in
    let above : latest (is_of c) (met_by xs i) < slot_at xs i = rw same at (slot-above xs i (omega arith)).0 in
    rw e (omega arith))
    (λ e. rw e ih))

-- The train slots keep the two rules,
pub slots-keep : (xs : List Crossing) → TwoRules xs (λ i. slot_at xs i)
slots-keep xs = record {
  from_one = λ i h. let a = slot-above xs i h in omega arith;
  rises = λ e i k h c.
      let own = met-below xs (is_of (named xs i).carrier) e i k (omega arith) (eq-eqb _ _ c) in
      let last = own-highest xs (named xs i).carrier i (omega arith) in
      let a = (slot-above xs i h).0 in
      omega arith;
  enters = λ e i h o.
      let l : latest (leaves (named xs i).to) (met_by xs i) ≡ slot_at xs e =
      latest-is xs (leaves (named xs i).to) e i o.earlier (omega arith) (eq-eqb _ _ o.out) (λ k a b. ne_eqb _ _ (o.none_between k a b)) in
      let a = (slot-above xs i h).1 in
      omega arith;
}

-- and no numbering from 1 that keeps them gives any crossing a lower slot.
lowest-below : (xs : List Crossing) (t : ℕ → ℕ) → TwoRules xs t → (k i : ℕ) → i < k → i < length xs → slot_at xs i ≤ t i
unfolding train_slot
lowest-below xs t n zero i l h = absurd (omega arith)
lowest-below xs t n (suc k) i l h =
    let s = slot_is xs i h in
    let one : 1 ≤ t i = n.from_one i h in
    let x = named xs i in
    let own : latest (is_of x.carrier) (met_by xs i) < t i =
    latest-by xs (is_of x.carrier) i (omega arith)
    (λ z. omega arith)
    (λ e m q b z.
    let ih = lowest-below xs t n k e (omega arith) (omega arith) in
    let r = n.rises e i m h (eqb-true _ _ q) in
    omega arith) in
    let out : latest (leaves x.to) (met_by xs i) ≤ t i =
    latest-by xs (leaves x.to) i (omega arith)
    (λ z. omega arith)
    (λ e m q b z.
    let ih = lowest-below xs t n k e (omega arith) (omega arith) in
    let r = n.enters e i h (record { earlier = m; out = eqb-true _ _ q; none_between = λ j u v. eqb-false _ _ (b j u v) }) in
    omega arith) in
    omega arith

pub slots-lowest : (xs : List Crossing) (t : ℕ → ℕ) → TwoRules xs t → (i : ℕ) → i < length xs → slot_at xs i ≤ t i
slots-lowest xs t n i h = lowest-below xs t n (suc i) i (omega arith) h

-- ## The first edition

-- a numbering that rises along dependence keeps the two rules
pub first-keeps : (xs : List Crossing) (t : ℕ → ℕ) → Numbering xs t → TwoRules xs t
unfolding depend
first-keeps xs t n = record {
  from_one = n.from_one;
  rises = λ e i k h c. n.rises e i k h (or_left _ _ (or_left _ _ (or_left _ _ (or_left _ _ (eq-eqb _ _ (sym c))))));
  enters = λ e i h o. let r = n.rises e i o.earlier h (or_left _ _ (or_right _ _ (eq-eqb _ _ (sym o.out)))) in omega arith;
}

-- A crossing's train slot is no higher than its slot in the first edition,
pub slots-no-higher : (xs : List Crossing) (i : ℕ) → i < length xs → slot_at xs i ≤ get_or (slots xs) i 0
slots-no-higher xs i h = slots-lowest xs (λ j. get_or (slots xs) j 0) (first-keeps xs _ (slots-rise xs)) i h

-- so the highest is no higher.
pub highest-no-higher : (xs : List Crossing) → highest_slot (train_slots xs) ≤ highest_slot (slots xs)
highest-no-higher xs =
    highest-below (train_slots xs) (highest_slot (slots xs))
    (λ i h.
    let k : i < length xs = rw (slots_length xs) at h in
    let low = slots-no-higher xs i k in
    let top = highest-above (slots xs) i (rw (first.slots_length xs) k) in
    omega arith)
