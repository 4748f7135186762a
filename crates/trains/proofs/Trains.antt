-- What the train slots of a plan that passes the check promise. The placements after each slot are those in which every carrier has made its
-- crossings of the slots so far, and there is no other way to do each slot's crossings all at once.
use mathlib.Core.Path.{◌≡◌, sym, ◌∙◌, ap}
use mathlib.Core.Bool.{Bool, true, false}
use mathlib.Core.List.{List, ◌∷◌}
use mathlib.Core.Option.{none}
use Prim.Native.Nat.{ℕ, zero, suc, ◌<◌, ◌≤◌}
use native.Mathlib.Omega.{arith}
use lib.Dec.{eqb, leb, ltb}
use lib.ListN.{length, get_or}
use lib.Seq.{ext_get_or, take-length}
use borrow.Author.Tests.{eqb-true, eq-eqb, ne_eqb, ltb-true, ltb-false, leb-true, leb-false}
use Rattle.paper.specs.Basics.{◌and◌, find, up_to}
use Rattle.paper.specs.Yard.{Carrier, Yard, Placement, Crossing, bay_of, named, move, after, legal_plan, crossings}
use Rattle.paper.specs.Order.{Order}
use Rattle.paper.specs.Dependence.{slots}
use Rattle.paper.specs.Docket.{yard_of}
use Rattle.paper.specs.Answers.{check}
use Rattle.paper.proofs.Tests.{by_cases, by-option, not-both, and_left, and_right, and_both}
use Rattle.paper.proofs.Members.{highest-above, find_none, find-up_to, in_count}
use Rattle.paper.proofs.Playing.{Apart}
use Rattle.paper.proofs.Admitted.{clean_of, good_of}
use Rattle.paper.proofs.Checking.{check-passed}
use Rattle.trains.specs.Slots.{train_slots, highest_slot}
use Rattle.trains.specs.Rules.{TwoRules}
use Rattle.trains.specs.Rolling.{AtOnce, Rolled}
use Rattle.trains.proofs.Meeting.{met_by, slot_at, slots_length, met-none, met-on, stands, stands_by}
use Rattle.trains.proofs.Lowest.{slot-above, slots-keep, slots-lowest, slots-no-higher, highest-no-higher}
use Rattle.trains.proofs.Rolling.{rolled_by, rolled-length, stands-length, by-later, by-done, by-other, by-self, legal-at, kept_by, never-head-on}

-- a carrier that crosses at both names does so in a later slot at the later one
other-carrier : (xs : List Crossing) (i k : ℕ) → i < k → k < length xs → slot_at xs k ≤ slot_at xs i
    → eqb (named xs i).carrier (named xs k).carrier ≡ false
other-carrier xs i k l h s = ne_eqb _ _ (λ e. let r = (slots-keep xs).rises i k l h e in omega arith)

-- A carrier makes at most one crossing in a slot.
pub once-a-slot : (xs : List Crossing) (i j : ℕ) → i < length xs → j < length xs → slot_at xs i ≡ slot_at xs j
    → (named xs i).carrier ≡ (named xs j).carrier → i ≡ j
once-a-slot xs i j hi hj s c =
    by_cases (ltb i j)
    (λ a. not-both (eq-eqb _ _ c) (other-carrier xs i j (ltb-true i j a) hj (omega arith)))
    (λ a. by_cases (ltb j i)
    (λ b. not-both (eq-eqb _ _ (sym c)) (other-carrier xs j i (ltb-true j i b) hi (omega arith)))
    (λ b. omega (arith, ltb-false i j a, ltb-false j i b)))

module _ (Y : Yard) (p : Placement) (xs : List Crossing) (apart : Apart p) (lawful : legal_plan Y p xs ≡ true) where
  -- of the first k crossings, those of slot t + 1 start where the carriers stand after slot t,
  starts_by : (t k : ℕ) → k ≤ length xs → (i : ℕ) → i < k → slot_at xs i ≡ suc t
      → bay_of (rolled_by p t (met_by xs k)) (named xs i).carrier ≡ (named xs i).from
  starts_by t zero h i l e = absurd (omega arith)
  starts_by t (suc k) h i l e =
      rw (met-on xs k (omega arith))
      (by_cases (ltb i k)
      (λ a.
      let ih = starts_by t k (omega arith) i (ltb-true i k a) e in
      by_cases (leb (slot_at xs k) t)
      (λ d.
      let below = leb-true (slot_at xs k) t d in
      by-other p t (named xs k) (slot_at xs k) (met_by xs k) (named xs i).carrier (other-carrier xs i k (ltb-true i k a) (omega arith) (omega arith)) ∙ ih)
      (λ d. rw (by-later p t (named xs k) (slot_at xs k) (met_by xs k) (leb-false (slot_at xs k) t d)) ih))
      (λ a.
      let same : i ≡ k = omega (arith, ltb-false i k a) in
      let s : slot_at xs k ≡ suc t = rw same at e in
      let last = (slot-above xs k (omega arith)).0 in
      rw (same, by-later p t (named xs k) (slot_at xs k) (met_by xs k) (omega arith))
      ((kept_by Y p xs apart lawful k (omega arith)).settled (named xs k).carrier t (omega arith) ∙ (legal-at Y p xs apart lawful k (omega arith)).stands)))

  known_by : (i : ℕ) → i < length xs → (named xs i).carrier < length p
  known_by i h = rw (stands-length p (met_by xs i)) at (legal-at Y p xs apart lawful i h).there

  -- and end where they stand after slot t + 1;
  ends_by : (t k : ℕ) → k ≤ length xs → (i : ℕ) → i < k → slot_at xs i ≡ suc t
      → bay_of (rolled_by p (suc t) (met_by xs k)) (named xs i).carrier ≡ (named xs i).to
  ends_by t zero h i l e = absurd (omega arith)
  ends_by t (suc k) h i l e =
      rw (met-on xs k (omega arith))
      (by_cases (ltb i k)
      (λ a.
      let ih = ends_by t k (omega arith) i (ltb-true i k a) e in
      by_cases (leb (slot_at xs k) (suc t))
      (λ d.
      let below = leb-true (slot_at xs k) (suc t) d in
      by-other p (suc t) (named xs k) (slot_at xs k) (met_by xs k) (named xs i).carrier (other-carrier xs i k (ltb-true i k a) (omega arith) (omega arith)) ∙ ih)
      (λ d. rw (by-later p (suc t) (named xs k) (slot_at xs k) (met_by xs k) (leb-false (slot_at xs k) (suc t) d)) ih))
      (λ a.
      let same : i ≡ k = omega (arith, ltb-false i k a) in
      let s : slot_at xs k ≡ suc t = rw same at e in
      rw same (by-self p (suc t) (named xs k) (slot_at xs k) (met_by xs k) (omega arith) (known_by k (omega arith)))))

  -- a carrier with none of them has stayed.
  stays_by : (t k : ℕ) → k ≤ length xs → (c : Carrier) → ((i : ℕ) → i < k → slot_at xs i ≡ suc t → (named xs i).carrier ≡ c → ⊥)
      → bay_of (rolled_by p (suc t) (met_by xs k)) c ≡ bay_of (rolled_by p t (met_by xs k)) c
  unfolding rolled_by
  stays_by t zero h c n = rw (met-none xs)
  stays_by t (suc k) h c n =
      let x = named xs k in
      let s = slot_at xs k in
      let met = met_by xs k in
      let ih = stays_by t k (omega arith) c (λ i l. n i (omega arith)) in
      let stay : bay_of (rolled_by p (suc t) ((x, s) ∷ met)) c ≡ bay_of (rolled_by p t ((x, s) ∷ met)) c =
      by_cases (eqb c x.carrier)
      (λ a.
      let own = eqb-true c x.carrier a in
      let known = known_by k (omega arith) in
      by_cases (leb s t)
      (λ d.
      let done = leb-true s t d in
      rw own (by-self p (suc t) x s met (omega arith) known ∙ sym (by-self p t x s met done known)))
      (λ d. by_cases (ltb (suc t) s)
      (λ f. rw (by-later p (suc t) x s met (ltb-true (suc t) s f), by-later p t x s met (leb-false s t d)) ih)
      (λ f. absurd (n k (omega arith) (omega (arith, leb-false s t d, ltb-false (suc t) s f)) (sym own)))))
      (λ a. by-other p (suc t) x s met c a ∙ ih ∙ sym (by-other p t x s met c a)) in
      rw (met-on xs k (omega arith)) stay

  -- the placement after slot t
  pub rolled : ℕ → Placement
  rolled t = rolled_by p t (met_by xs (length xs))

  -- before slot 1 nobody has moved
  begins-by : (k : ℕ) → k ≤ length xs → rolled_by p 0 (met_by xs k) ≡ p
  unfolding rolled_by
  begins-by zero h = rw (met-none xs)
  begins-by (suc k) h =
      let one = (slot-above xs k (omega arith)).0 in
      ap (rolled_by p 0) (met-on xs k (omega arith)) ∙ by-later p 0 (named xs k) (slot_at xs k) (met_by xs k) (omega arith) ∙ begins-by k (omega arith)

  -- and after the highest all have made all their crossings
  all-by : (t k : ℕ) → k ≤ length xs → ((i : ℕ) → i < k → slot_at xs i ≤ t) → rolled_by p t (met_by xs k) ≡ stands p (met_by xs k)
  unfolding rolled_by stands
  all-by t zero h f = rw (met-none xs)
  all-by t (suc k) h f =
      let ih = all-by t k (omega arith) (λ i l. f i (omega arith)) in
      rw (met-on xs k (omega arith))
      (by-done p t (named xs k) (slot_at xs k) (met_by xs k) (f k (omega arith)) ∙ ap (λ q. move q (named xs k)) ih)

  -- The plan can be rolled: each slot's crossings are done all at once.
  pub rolls : Rolled xs (train_slots xs) p rolled
  unfolding rolled
  rolls = record {
    begins = begins-by (length xs) (omega arith);
    at_once = λ t. record {
      same_carriers = rolled-length p (suc t) (met_by xs (length xs)) ∙ sym (rolled-length p t (met_by xs (length xs)));
      known = λ i h e. rw (rolled-length p t (met_by xs (length xs))) (known_by i h);
      starts = λ i h e. starts_by t (length xs) (omega arith) i h e;
      ends = λ i h e. ends_by t (length xs) (omega arith) i h e;
      stays = λ c n. stays_by t (length xs) (omega arith) c n;
    };
  }

  rolled-apart : (t : ℕ) → Apart (rolled t)
  unfolding rolled
  rolled-apart t = (kept_by Y p xs apart lawful (length xs) (omega arith)).apart t

  rolled-ends : (t : ℕ) → highest_slot (train_slots xs) ≤ t → rolled t ≡ after p xs
  unfolding rolled
  rolled-ends t h =
      all-by t (length xs) (omega arith) (λ i l. let top = highest-above (train_slots xs) i (rw (slots_length xs) l) in omega arith)
      ∙ stands_by p xs (length xs)
      ∙ ap (after p) (take-length xs)

-- ## All at once leaves no choice

at-once-same : (xs : List Crossing) (ss : List ℕ) (t : ℕ) (p q q' : Placement) → AtOnce xs ss t p q → AtOnce xs ss t p q' → q ≡ q'
at-once-same xs ss t p q q' a b =
    ext_get_or 0 q q' (a.same_carriers ∙ sym b.same_carriers)
    (λ c h.
    let test : ℕ → Bool = λ i. eqb (get_or ss i 0) t and eqb (named xs i).carrier c in
    by-option (find test (up_to (length xs)))
    (λ e.
    let nobody : (i : ℕ) → i < length xs → get_or ss i 0 ≡ t → (named xs i).carrier ≡ c → ⊥ =
    λ i l s o. not-both (and_both _ _ (eq-eqb _ _ s) (eq-eqb _ _ o)) (find_none test (up_to (length xs)) i e (in_count 0 (length xs) i (omega arith) (omega arith))) in
    a.stays c nobody ∙ sym (b.stays c nobody))
    (λ i e.
    let f = find-up_to test (length xs) i e in
    let s = eqb-true _ _ (and_left _ _ f.1) in
    let o : (named xs i).carrier ≡ c = eqb-true _ _ (and_right _ _ f.1) in
    let here : bay_of q (named xs i).carrier ≡ bay_of q' (named xs i).carrier = a.ends i f.0 s ∙ sym (b.ends i f.0 s) in
    rw o at here))

pub rolled-same : (xs : List Crossing) (ss : List ℕ) (start : Placement) (p q : ℕ → Placement) → Rolled xs ss start p → Rolled xs ss start q
    → (t : ℕ) → p t ≡ q t
rolled-same xs ss start p q a b zero = a.begins ∙ sym b.begins
rolled-same xs ss start p q a b (suc t) =
    let ih = rolled-same xs ss start p q a b t in
    let s : AtOnce xs ss (suc t) (q t) (p (suc t)) = rw ih at (a.at_once t) in
    at-once-same xs ss (suc t) (q t) (p (suc t)) (q (suc t)) s (b.at_once t)

-- ## For a plan that passes the check

pub record TrainSlots (starts goals : Placement) (xs : List Crossing) : Type 0 where
  -- the slots keep the two rules, and no numbering from 1 that keeps them gives any crossing a lower slot
  pub keep-rules : TwoRules xs (λ i. get_or (train_slots xs) i 0)
  pub lowest : (t : ℕ → ℕ) → TwoRules xs t → (i : ℕ) → i < length xs → get_or (train_slots xs) i 0 ≤ t i
  -- each slot's crossings can be done all at once, in one way only
  pub can-roll : (p : ℕ → Placement) × Rolled xs (train_slots xs) starts p
  pub one_way : (p q : ℕ → Placement) → Rolled xs (train_slots xs) starts p → Rolled xs (train_slots xs) starts q → (t : ℕ) → p t ≡ q t
  -- one carrier to a bay after every slot
  pub one-to-a-bay : (p : ℕ → Placement) → Rolled xs (train_slots xs) starts p → (t : ℕ) → Apart (p t)
  -- no two crossings of a slot pass head-on over one rail
  pub no-head-on : (i j : ℕ) → i < length xs → j < length xs → get_or (train_slots xs) i 0 ≡ get_or (train_slots xs) j 0
      → (named xs i).from ≡ (named xs j).to → (named xs i).to ≡ (named xs j).from → ⊥
  -- a carrier makes at most one crossing in a slot
  pub once : (i j : ℕ) → i < length xs → j < length xs → get_or (train_slots xs) i 0 ≡ get_or (train_slots xs) j 0
      → (named xs i).carrier ≡ (named xs j).carrier → i ≡ j
  -- the end placement is the plan's, and so the goals
  pub ends-as-planned : (p : ℕ → Placement) → Rolled xs (train_slots xs) starts p → (t : ℕ) → highest_slot (train_slots xs) ≤ t
      → (p t ≡ after starts xs) × (p t ≡ goals)
  -- no slot is higher than in the first edition, and so the highest is not
  pub no-higher : (i : ℕ) → i < length xs → get_or (train_slots xs) i 0 ≤ get_or (slots xs) i 0
  pub highest-not-higher : highest_slot (train_slots xs) ≤ highest_slot (slots xs)

pub train-slots : (o : Order) (plan : List ℕ) → check o plan ≡ none
    → TrainSlots o.starts o.goals (crossings plan)
train-slots o plan passes =
    let xs = crossings plan in
    let Y = yard_of o in
    let done = check-passed o plan passes in
    let apart = (good_of o o.starts (clean_of o (length plan) done.sound).starts).apart in
    let mine = rolls Y o.starts xs apart done.lawful in
    let same : (p : ℕ → Placement) → Rolled xs (train_slots xs) o.starts p → (t : ℕ) → p t ≡ rolled Y o.starts xs apart done.lawful t =
    λ p r. rolled-same xs (train_slots xs) o.starts p (rolled Y o.starts xs apart done.lawful) r mine in
    record {
      keep-rules = slots-keep xs;
      lowest = slots-lowest xs;
      can-roll = (rolled Y o.starts xs apart done.lawful, mine);
      one_way = rolled-same xs (train_slots xs) o.starts;
      one-to-a-bay = λ p r t. rw (same p r t) (rolled-apart Y o.starts xs apart done.lawful t);
      no-head-on = never-head-on Y o.starts xs apart done.lawful;
      once = once-a-slot xs;
      ends-as-planned = λ p r t h.
          let e = same p r t ∙ rolled-ends Y o.starts xs apart done.lawful t h in (e, e ∙ done.home);
      no-higher = slots-no-higher xs;
      highest-not-higher = highest-no-higher xs;
    }
