-- Why a slot's crossings can be done all at once. A bay is left in a later slot than it was entered, since the carrier makes both, and is entered
-- again no earlier than it was left. So once the crossings of the slots up to t are done, each crossing that comes next in the plan and is of
-- these slots is legal there too: its carrier stands at `from`, and `to` is empty.
use Rattle.std.specs.Prelude.{if◌then◌else◌}
use mathlib.Core.Path.{◌≡◌, refl, sym, ◌∙◌, ap}
use mathlib.Core.Bool.{Bool, true, false}
use mathlib.Core.List.{List, [], ◌∷◌}
use Prim.Native.Nat.{ℕ, zero, suc, ◌<◌, ◌≤◌, max}
use native.Mathlib.Omega.{arith}
use lib.Dec.{eqb, leb, ltb}
use lib.ListN.{length, take, length-set}
use lib.Seq.{get_or-set_same, get_or-set_other}
use borrow.Author.Tests.{eqb-true, eqb-false, eq-eqb, ne_eqb, ltb-true, ltb-false, leb-true, leb-false, le-leb, lt-leb}
use Rattle.paper.specs.Basics.{Out}
use Rattle.paper.specs.Yard.{Bay, Carrier, Yard, Placement, Crossing, bay_of, named, move, after, legal_plan}
use Rattle.paper.proofs.Tests.{by_cases}
use Rattle.paper.proofs.Playing.{Apart, Legal, legal-facts, plan-head, plan-tail, out_of, out-no, move-self, move-other, move-apart, move-differs, move-empties, move-out}
use Rattle.trains.specs.Slots.{Timed, latest, is_of, leaves}
use Rattle.trains.proofs.Meeting.{met_by, slot_at, met-none, met-on, stands, stands_by, highest_met, met-below}
use Rattle.trains.proofs.Lowest.{slot-above}

-- a crossing into bay b
abbrev pub enters : Bay → Crossing → Bool
enters b x = eqb x.to b

-- the placement once the crossings of the slots up to t are done
unfoldable pub rolled_by : Placement → ℕ → List Timed → Placement
rolled_by p t [] = p
rolled_by p t (m ∷ met) = let rest = rolled_by p t met in if leb m.1 t then move rest m.0 else rest

pub rolled-length : (p : Placement) (t : ℕ) (met : List Timed) → length (rolled_by p t met) ≡ length p
unfolding rolled_by
rolled-length p t [] = refl
rolled-length p t (m ∷ met) =
    by_cases (leb m.1 t)
    (λ e. rw e (length-set (rolled_by p t met) m.0.carrier m.0.to ∙ rolled-length p t met))
    (λ e. rw e (rolled-length p t met))

pub stands-length : (p : Placement) (met : List Timed) → length (stands p met) ≡ length p
unfolding stands
stands-length p [] = refl
stands-length p (m ∷ met) = length-set (stands p met) m.0.carrier m.0.to ∙ stands-length p met

module _ (p : Placement) (t : ℕ) (x : Crossing) (s : ℕ) (met : List Timed) where
  pub by-later : t < s → rolled_by p t ((x, s) ∷ met) ≡ rolled_by p t met
  unfolding rolled_by
  by-later h = rw (lt-leb s t h)

  pub by-done : s ≤ t → rolled_by p t ((x, s) ∷ met) ≡ move (rolled_by p t met) x
  unfolding rolled_by
  by-done h = rw (le-leb s t h)

  pub by-other : (c : Carrier) → eqb c x.carrier ≡ false → bay_of (rolled_by p t ((x, s) ∷ met)) c ≡ bay_of (rolled_by p t met) c
  by-other c e =
      by_cases (leb s t)
      (λ h. ap (λ q. bay_of q c) (by-done (leb-true s t h)) ∙ get_or-set_other (rolled_by p t met) x.carrier c x.to 0 (eqb-false c x.carrier e))
      (λ h. ap (λ q. bay_of q c) (by-later (leb-false s t h)))

  pub by-self : s ≤ t → x.carrier < length p → bay_of (rolled_by p t ((x, s) ∷ met)) x.carrier ≡ x.to
  by-self h k =
      ap (λ q. bay_of q x.carrier) (by-done h)
      ∙ get_or-set_same (rolled_by p t met) x.carrier x.to 0 (rw (rolled-length p t met) k)

-- how the latest and the highest change with one crossing more
module _ (test : Crossing → Bool) (x : Crossing) (s : ℕ) (met : List Timed) where
  latest-hit : test x ≡ true → latest test ((x, s) ∷ met) ≡ s
  unfolding latest
  latest-hit e = rw e

  latest-past : test x ≡ false → latest test ((x, s) ∷ met) ≡ latest test met
  unfolding latest
  latest-past e = rw e

  highest-hit : test x ≡ true → highest_met test ((x, s) ∷ met) ≡ max s (highest_met test met)
  unfolding highest_met
  highest-hit e = rw e

  highest-past : test x ≡ false → highest_met test ((x, s) ∷ met) ≡ highest_met test met
  unfolding highest_met
  highest-past e = rw e

-- What holds of the crossings met so far in a legal plan.
pub record Kept (p : Placement) (met : List Timed) : Type 0 where
  -- from its last slot on a carrier stands where all of them leave it
  pub settled : (c : Carrier) (t : ℕ) → latest (is_of c) met ≤ t → bay_of (rolled_by p t met) c ≡ bay_of (stands p met) c
  -- one carrier to a bay after every slot
  pub apart : (t : ℕ) → Apart (rolled_by p t met)
  -- a bay that they leave empty is empty from its latest leaving on
  pub emptied : (b : Bay) (t : ℕ) → Out b (stands p met) → latest (leaves b) met ≤ t → Out b (rolled_by p t met)
  -- nobody entered a carrier's bay after the carrier, nor an empty bay after its latest leaving
  pub held : (c : Carrier) → c < length p → highest_met (enters (bay_of (stands p met) c)) met ≤ latest (is_of c) met
  pub left : (b : Bay) → Out b (stands p met) → highest_met (enters b) met ≤ latest (leaves b) met

kept-none : (p : Placement) → Apart p → Kept p []
unfolding rolled_by stands latest highest_met
kept-none p apart = record {
  settled = λ c t h. refl;
  apart = λ t. apart;
  emptied = λ b t o h. o;
  held = λ c h. omega arith;
  left = λ b o. omega arith;
}

-- One crossing more, legal where the others leave the carriers, at a slot that keeps the two rules.
module _ (Y : Yard) (p : Placement) (x : Crossing) (s : ℕ) (met : List Timed) (k : Kept p met) (l : Legal Y (stands p met) x)
    (later : latest (is_of x.carrier) met < s) (no_lower : latest (leaves x.to) met ≤ s) where
  known : x.carrier < length p
  known = rw (stands-length p met) at l.there

  -- it is legal after every slot from its own on, the others done
  legal-there : (t : ℕ) → s ≤ t → Legal Y (rolled_by p t met) x
  legal-there t h = record {
    there = rw (rolled-length p t met) known;
    stands = k.settled x.carrier t (omega arith) ∙ l.stands;
    rail = l.rail;
    free = k.emptied x.to t l.free (omega arith);
  }

  moved : stands p ((x, s) ∷ met) ≡ move (stands p met) x
  unfolding stands
  moved = refl

  -- a bay that is empty now is not the one entered, and was empty unless it is the one left
  not_entered : (b : Bay) → Out b (stands p ((x, s) ∷ met)) → x.to ≡ b → ⊥
  not_entered b o e =
      out-no (move (stands p met) x) b (rw moved at o) x.carrier (rw length-set l.there) (move-self Y (stands p met) x l ∙ e)

  was-empty : (b : Bay) → Out b (stands p ((x, s) ∷ met)) → leaves b x ≡ false → Out b (stands p met)
  was-empty b o f =
      out_of (stands p met) b
      (λ c h e.
      by_cases (eqb c x.carrier)
      (λ a. eqb-false x.from b f (sym l.stands ∙ ap (bay_of (stands p met)) (sym (eqb-true c x.carrier a)) ∙ e))
      (λ a. out-no (move (stands p met) x) b (rw moved at o) c (rw length-set h) (move-other Y (stands p met) x l c a ∙ e)))

  settled_on : (c : Carrier) (t : ℕ) → latest (is_of c) ((x, s) ∷ met) ≤ t
      → bay_of (rolled_by p t ((x, s) ∷ met)) c ≡ bay_of (stands p ((x, s) ∷ met)) c
  settled_on c t h =
      by_cases (eqb c x.carrier)
      (λ a.
      let same = eqb-true c x.carrier a in
      let own : s ≤ t = rw (latest-hit (is_of c) x s met (eq-eqb _ _ (sym same))) at h in
      rw (same, moved) (by-self p t x s met own known ∙ sym (move-self Y (stands p met) x l)))
      (λ a.
      let other : is_of c x ≡ false = ne_eqb _ _ (λ e. eqb-false c x.carrier a (sym e)) in
      let rest : latest (is_of c) met ≤ t = rw (latest-past (is_of c) x s met other) at h in
      rw moved (by-other p t x s met c a ∙ k.settled c t rest ∙ sym (move-other Y (stands p met) x l c a)))

  apart-on : (t : ℕ) → Apart (rolled_by p t ((x, s) ∷ met))
  apart-on t =
      by_cases (leb s t)
      (λ h. rw (by-done p t x s met (leb-true s t h)) (move-apart Y (rolled_by p t met) x (legal-there t (leb-true s t h)) (k.apart t)))
      (λ h. rw (by-later p t x s met (leb-false s t h)) (k.apart t))

  emptied-on : (b : Bay) (t : ℕ) → Out b (stands p ((x, s) ∷ met)) → latest (leaves b) ((x, s) ∷ met) ≤ t → Out b (rolled_by p t ((x, s) ∷ met))
  emptied-on b t o h =
      by_cases (leaves b x)
      (λ f.
      let own : s ≤ t = rw (latest-hit (leaves b) x s met f) at h in
      let same : x.from ≡ b = eqb-true x.from b f in
      rw (by-done p t x s met own) (rw same at (move-empties Y (rolled_by p t met) x (legal-there t own) (k.apart t))))
      (λ f.
      let rest : latest (leaves b) met ≤ t = rw (latest-past (leaves b) x s met f) at h in
      let out : Out b (rolled_by p t met) = k.emptied b t (was-empty b o f) rest in
      by_cases (leb s t)
      (λ d.
      rw (by-done p t x s met (leb-true s t d))
      (move-out Y (rolled_by p t met) x (legal-there t (leb-true s t d)) b out (λ e. not_entered b o (sym e))))
      (λ d. rw (by-later p t x s met (leb-false s t d)) out))

  held_on : (c : Carrier) → c < length p → highest_met (enters (bay_of (stands p ((x, s) ∷ met)) c)) ((x, s) ∷ met) ≤ latest (is_of c) ((x, s) ∷ met)
  held_on c h =
      by_cases (eqb c x.carrier)
      (λ a.
      let same = eqb-true c x.carrier a in
      let b : bay_of (stands p ((x, s) ∷ met)) c ≡ x.to = rw (same, moved) (move-self Y (stands p met) x l) in
      let below = k.left x.to l.free in
      rw (b, latest-hit (is_of c) x s met (eq-eqb _ _ (sym same)), highest-hit (enters x.to) x s met (eq-eqb x.to x.to refl)) (omega arith))
      (λ a.
      let other : is_of c x ≡ false = ne_eqb _ _ (λ e. eqb-false c x.carrier a (sym e)) in
      let b : bay_of (stands p ((x, s) ∷ met)) c ≡ bay_of (stands p met) c = rw moved (move-other Y (stands p met) x l c a) in
      let not_there : enters (bay_of (stands p met) c) x ≡ false =
      ne_eqb _ _ (λ e. out-no (stands p met) x.to l.free c (rw (stands-length p met) h) (sym e)) in
      rw (b, latest-past (is_of c) x s met other, highest-past (enters (bay_of (stands p met) c)) x s met not_there) (k.held c h))

  left-on : (b : Bay) → Out b (stands p ((x, s) ∷ met)) → highest_met (enters b) ((x, s) ∷ met) ≤ latest (leaves b) ((x, s) ∷ met)
  left-on b o =
      let past : enters b x ≡ false = ne_eqb _ _ (not_entered b o) in
      by_cases (leaves b x)
      (λ f.
      let here : bay_of (stands p met) x.carrier ≡ b = l.stands ∙ eqb-true x.from b f in
      let below : highest_met (enters b) met ≤ latest (is_of x.carrier) met = rw here at (k.held x.carrier known) in
      rw (latest-hit (leaves b) x s met f, highest-past (enters b) x s met past) (omega arith))
      (λ f. rw (latest-past (leaves b) x s met f, highest-past (enters b) x s met past) (k.left b (was-empty b o f)))

  kept_on : Kept p ((x, s) ∷ met)
  kept_on = record { settled = settled_on; apart = apart-on; emptied = emptied-on; held = held_on; left = left-on }

-- ## A legal plan from a placement in which the carriers are apart

legal-in-turn : (Y : Yard) (p : Placement) (xs : List Crossing) (i : ℕ) → i < length xs → legal_plan Y p xs ≡ true
    → Legal Y (after p (take i xs)) (named xs i)
unfolding after
legal-in-turn Y p [] i h l = absurd (omega arith)
legal-in-turn Y p (x ∷ xs) zero h l = legal-facts Y p x (plan-head Y p x xs l)
legal-in-turn Y p (x ∷ xs) (suc i) h l = legal-in-turn Y (move p x) xs i (omega arith) (plan-tail Y p x xs l)

module _ (Y : Yard) (p : Placement) (xs : List Crossing) (apart : Apart p) (lawful : legal_plan Y p xs ≡ true) where
  pub legal-at : (i : ℕ) → i < length xs → Legal Y (stands p (met_by xs i)) (named xs i)
  legal-at i h = rw (stands_by p xs i) (legal-in-turn Y p xs i h lawful)

  pub kept_by : (i : ℕ) → i ≤ length xs → Kept p (met_by xs i)
  kept_by zero h = rw (met-none xs) (kept-none p apart)
  kept_by (suc i) h =
      let a = slot-above xs i (omega arith) in
      rw (met-on xs i (omega arith))
      (kept_on Y p (named xs i) (slot_at xs i) (met_by xs i) (kept_by i (omega arith)) (legal-at i (omega arith)) a.0 a.1)

  -- a bay is left in a later slot than any in which it was entered before
  left-later : (e i : ℕ) → e < i → i < length xs → (named xs e).to ≡ (named xs i).from → slot_at xs e < slot_at xs i
  left-later e i k h b =
      let l = legal-at i h in
      let x = named xs i in
      let known : x.carrier < length p = rw (stands-length p (met_by xs i)) at l.there in
      let below = met-below xs (enters x.from) e i k (omega arith) (eq-eqb _ _ b) in
      let top : highest_met (enters x.from) (met_by xs i) ≤ latest (is_of x.carrier) (met_by xs i) =
      rw l.stands at ((kept_by i (omega arith)).held x.carrier known) in
      let a = (slot-above xs i h).0 in
      omega arith

  -- No two crossings of one slot pass head-on over a rail.
  pub never-head-on : (i j : ℕ) → i < length xs → j < length xs → slot_at xs i ≡ slot_at xs j
      → (named xs i).from ≡ (named xs j).to → (named xs i).to ≡ (named xs j).from → ⊥
  never-head-on i j hi hj e ft tf =
      by_cases (ltb i j)
      (λ a. let s = left-later i j (ltb-true i j a) hj tf in omega arith)
      (λ a. by_cases (ltb j i)
      (λ b. let s = left-later j i (ltb-true j i b) hi (sym ft) in omega arith)
      (λ b.
      let same : i ≡ j = omega (arith, ltb-false i j a, ltb-false j i b) in
      move-differs Y (stands p (met_by xs i)) (named xs i) (legal-at i hi) (ft ∙ ap (λ m. (named xs m).to) (sym same))))
