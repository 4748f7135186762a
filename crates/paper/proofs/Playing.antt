-- Crossings played one after the other. A legal crossing moves one carrier into an empty bay, so carriers stay apart, the bay
-- it leaves is empty, and nobody else has moved.
use mathlib.Core.Path.{◌≡◌, refl, sym, ◌∙◌, ap}
use mathlib.Core.Bool.{true, false, not}
use mathlib.Core.List.{List, [], ◌∷◌, ◌++◌}
use Prim.Native.Nat.{ℕ, zero, suc, ◌<◌, ◌≤◌}
use native.Mathlib.Omega.{arith}
use lib.Dec.{eqb}
use lib.ListN.{length, take, length-set, length-take}
use lib.Seq.{get_or-set_same, get_or-set_other, get_or-take}
use borrow.Author.Tests.{not-true, eqb-true, eqb-false, eq-eqb, ltb-true, lt-ltb}
use Rattle.paper.specs.Basics.{elem, place_of, In, Out, up_to}
use Rattle.paper.specs.Yard.{Bay, Carrier, Yard, Placement, Crossing, bay_of, carrier_at, move, after, joined, legal, legal_plan}
use Rattle.paper.proofs.Tests.{by_cases, not-both, and_left, and_right, and_both}
use Rattle.paper.proofs.Members.{In-head, In-tail, In-cases, In-nil}

-- no two carriers stand at one bay
abbrev pub Apart : Placement → Type 0
Apart p = (i j : Carrier) → i < length p → j < length p → bay_of p i ≡ bay_of p j → i ≡ j

-- every rail leads to another bay of the yard
pub record Sound (Y : Yard) : Type 0 where
  pub inside : (a b : Bay) → joined Y a b ≡ true → In b (up_to Y.bays)
  pub no_loop : (a : Bay) → joined Y a a ≡ true → ⊥

-- The carriers are apart, and each stands at a bay of the yard.
pub record Good (Y : Yard) (p : Placement) : Type 0 where
  pub apart : Apart p
  pub inside : (c : Carrier) → c < length p → In (bay_of p c) (up_to Y.bays)

-- what a legal crossing is
pub record Legal (Y : Yard) (p : Placement) (x : Crossing) : Type 0 where
  pub there : x.carrier < length p
  pub stands : bay_of p x.carrier ≡ x.from
  pub rail : joined Y x.from x.to ≡ true
  pub free : Out x.to p

module _ (Y : Yard) where
  pub legal-facts : (p : Placement) (x : Crossing) → legal Y p x ≡ true → Legal Y p x
  unfolding legal
  legal-facts p x h = record {
    there = ltb-true _ _ (and_left _ _ (and_left _ _ (and_left _ _ h)));
    stands = eqb-true _ _ (and_right _ _ (and_left _ _ (and_left _ _ h)));
    rail = and_right _ _ (and_left _ _ h);
    free = not-true _ (and_right _ _ h);
  }

  pub legal-of : (p : Placement) (x : Crossing) → Legal Y p x → legal Y p x ≡ true
  unfolding legal
  legal-of p x l =
      and_both _ _ (and_both _ _ (and_both _ _ (lt-ltb _ _ l.there) (eq-eqb _ _ l.stands)) l.rail) (ap not l.free)

pub after-append : (p : Placement) (xs ys : List Crossing) → after p (xs ++ ys) ≡ after (after p xs) ys
unfolding after
after-append p [] ys = refl
after-append p (x ∷ xs) ys = after-append (move p x) xs ys

pub after-length : (p : Placement) (xs : List Crossing) → length (after p xs) ≡ length p
unfolding after
after-length p [] = refl
after-length p (x ∷ xs) = after-length (move p x) xs ∙ length-set p x.carrier x.to

module _ (Y : Yard) where
  pub plan-head : (p : Placement) (x : Crossing) (xs : List Crossing) → legal_plan Y p (x ∷ xs) ≡ true → legal Y p x ≡ true
  unfolding legal_plan
  plan-head p x xs h = by_cases (legal Y p x) (λ e. e) (λ e. not-both (rw e at h) refl)

  pub plan-tail : (p : Placement) (x : Crossing) (xs : List Crossing) → legal_plan Y p (x ∷ xs) ≡ true → legal_plan Y (move p x) xs ≡ true
  unfolding legal_plan
  plan-tail p x xs h = rw (plan-head p x xs h) at h

  pub plan-cons : (p : Placement) (x : Crossing) (xs : List Crossing) → legal Y p x ≡ true → legal_plan Y (move p x) xs ≡ true → legal_plan Y p (x ∷ xs) ≡ true
  unfolding legal_plan
  plan-cons p x xs h k = rw h k

  pub plan-append : (p : Placement) (xs ys : List Crossing) → legal_plan Y p xs ≡ true → legal_plan Y (after p xs) ys ≡ true → legal_plan Y p (xs ++ ys) ≡ true
  unfolding after
  plan-append p [] ys h k = k
  plan-append p (x ∷ xs) ys h k =
      plan-cons p x (xs ++ ys) (plan-head p x xs h) (plan-append (move p x) xs ys (plan-tail p x xs h) k)

-- a bay in the placement is some carrier's, and the other way round
pub place_of-bay : (p : Placement) (b : Bay) → In b p → bay_of p (carrier_at p b) ≡ b
unfolding place_of
place_of-bay [] b i = In-nil b i
place_of-bay (c ∷ p) b i =
    by_cases (eqb b c) (λ e. rw e (sym (eqb-true b c e))) (λ e. rw e (place_of-bay p b (In-cases b c p i (λ k. not-both (eq-eqb b c k) e) (λ k. k))))

pub place_of-there : (p : Placement) (b : Bay) → In b p → carrier_at p b < length p
unfolding place_of
place_of-there [] b i = In-nil b i
place_of-there (c ∷ p) b i =
    by_cases (eqb b c)
    (λ e. rw e (omega arith))
    (λ e. let h = place_of-there p b (In-cases b c p i (λ k. not-both (eq-eqb b c k) e) (λ k. k)) in rw e (omega arith))

pub bay-in : (p : Placement) (c : Carrier) → c < length p → In (bay_of p c) p
bay-in [] c h = absurd (omega arith)
bay-in (b ∷ p) zero h = In-head b p
bay-in (b ∷ p) (suc c) h = In-tail (bay_of p c) b p (bay-in p c (omega arith))

-- a bay that no carrier has is not in the placement
pub out_of : (p : Placement) (b : Bay) → ((c : Carrier) → c < length p → bay_of p c ≡ b → ⊥) → Out b p
out_of p b f =
    by_cases (elem b p) (λ i. absurd (f (carrier_at p b) (place_of-there p b i) (place_of-bay p b i))) (λ e. e)

pub out-no : (p : Placement) (b : Bay) → Out b p → (c : Carrier) → c < length p → bay_of p c ≡ b → ⊥
out-no p b o c h e = not-both (rw e at (bay-in p c h)) o

-- ## The bays of the finished carriers, who are the first

pub in-finished : (k : ℕ) (p : Placement) → k ≤ length p → (c : Carrier) → c < k → In (bay_of p c) (take k p)
in-finished k p hk c h = rw (get_or-take k p c 0 h) at (bay-in (take k p) c (rw length-take (omega arith)))

-- such a bay is some finished carrier's,
pub whose : (k : ℕ) (p : Placement) (b : Bay) → In b (take k p) → (c : Carrier) × (c < k) × (bay_of p c ≡ b)
whose k p b i =
    let c = carrier_at (take k p) b in
    let h : c < k = let z = rw length-take at (place_of-there (take k p) b i) in omega arith in
    (c, h, sym (get_or-take k p c 0 h) ∙ place_of-bay (take k p) b i)

-- and a bay where none of them stands is not among them
pub out-finished : (k : ℕ) (p : Placement) (b : Bay) → ((c : Carrier) → c < k → bay_of p c ≡ b → ⊥) → Out b (take k p)
out-finished k p b f = by_cases (elem b (take k p)) (λ i. let w = whose k p b i in absurd (f w.0 w.1 w.2)) (λ e. e)

module _ (Y : Yard) (p : Placement) (x : Crossing) (l : Legal Y p x) where
  pub move-self : bay_of (move p x) x.carrier ≡ x.to
  move-self = get_or-set_same p x.carrier x.to 0 l.there

  pub move-other : (c : Carrier) → eqb c x.carrier ≡ false → bay_of (move p x) c ≡ bay_of p c
  move-other c e = get_or-set_other p x.carrier c x.to 0 (eqb-false c x.carrier e)

  -- nobody stood where the crossing leads
  nobody : (c : Carrier) → c < length p → bay_of p c ≡ x.to → ⊥
  nobody c h e = out-no p x.to l.free c h e

  -- a legal crossing keeps the carriers apart, and empties the bay that it leaves
  pub move-apart : Apart p → Apart (move p x)
  move-apart apart i j hi hj e =
      let ki : i < length p = rw length-set at hi in
      let kj : j < length p = rw length-set at hj in
      by_cases (eqb i x.carrier)
      (λ a. by_cases (eqb j x.carrier)
      (λ b. eqb-true i x.carrier a ∙ sym (eqb-true j x.carrier b))
      (λ b. absurd (nobody j kj (cc (move-other j b, move-self, eqb-true i x.carrier a)))))
      (λ a. by_cases (eqb j x.carrier)
      (λ b. absurd (nobody i ki (cc (move-other i a, move-self, eqb-true j x.carrier b))))
      (λ b. apart i j ki kj (cc (move-other i a, move-other j b))))

  -- the carrier's old and new bay differ, since nobody stood at the new one
  pub move-differs : x.from ≡ x.to → ⊥
  move-differs e = nobody x.carrier l.there (l.stands ∙ e)

  pub move-empties : Apart p → Out x.from (move p x)
  move-empties apart =
      out_of (move p x) x.from
      (λ c h e.
      by_cases (eqb c x.carrier)
      (λ a. move-differs (cc (move-self, eqb-true c x.carrier a)))
      (λ a.
      let k : c < length p = rw length-set at h in
      eqb-false c x.carrier a (apart c x.carrier k l.there (cc (move-other c a, l.stands)))))

  -- what was empty, and is not where the crossing leads, stays empty
  pub move-out : (z : Bay) → Out z p → (z ≡ x.to → ⊥) → Out z (move p x)
  move-out z o n =
      out_of (move p x) z
      (λ c h e.
      by_cases (eqb c x.carrier)
      (λ a. n (cc (move-self, eqb-true c x.carrier a)))
      (λ a. out-no p z o c (rw length-set at h) (sym (move-other c a) ∙ e)))
