-- Why a plan can be played with a mark for each occupied bay beside the placement: a legal crossing takes one mark away and sets one,
-- and what is left of the plan, played from where the carriers are now, decides.
use mathlib.Core.Path.{◌≡◌, refl, sym, ◌∙◌, ap}
use mathlib.Core.Bool.{Bool, true, false, not}
use mathlib.Core.List.{List, [], ◌∷◌}
use mathlib.Core.Option.{none, some}
use Prim.Native.Nat.{ℕ, suc, ◌≤◌, ◌<◌, ◌+◌}
use native.Mathlib.Omega.{arith}
use native.Mathlib.Numerals.{add-one}
use borrow.Author.Tests.{eqb-true, eqb-false, eq-eqb, lt-ltb, le-ltb}
use lib.Dec.{eqb}
use lib.ListN.{length, get_or, take, drop, set, replicate, length-set, length-replicate, get_or-replicate}
use lib.Seq.{take-suc, take-length, get_or-set_same, get_or-set_other}
use Rattle.paper.specs.Basics.{◌and◌, ◌or◌, elem, In}
use Rattle.paper.specs.Yard.{Yard, Bay, Carrier, Placement, Crossing, bay_of, carrier_at, move, after, legal, crossings, named}
use Rattle.paper.specs.Docket.{first_illegal}
use Rattle.paper.proofs.Tests.{by_cases, never-some, or_right, and-true}
use Rattle.paper.proofs.Members.{elem-last}
use Rattle.paper.proofs.Playing.{Legal, legal-facts, bay-in, place_of-there, place_of-bay, move-self, move-other, move-apart, move-empties, move-out}
use Rattle.plans.proofs.Rest.{rest-next, rest-none}
use Rattle.paper.proofs.Fields.{and-false}
use Rattle.paper.proofs.Marking.{flag}
use Rattle.words.specs.Sets.{span}
use Rattle.first_bad.proofs.Places.{marked}
use Rattle.replay.specs.Playing.{InRows, Standing, Occupied, Played, legal_to}

-- A mark taken away.
pub unmarked : (occupied : List ℕ) (x : Bay) → x < length occupied → (b : Bay) → flag (set occupied x 0) b ≡ flag occupied b and not (eqb b x)
unmarked occupied x h b =
    by_cases (eqb b x)
    (λ e. rw (e, eqb-true b x e, get_or-set_same occupied x 0 0 h) (sym (and-false (flag occupied x))))
    (λ e. rw (e, get_or-set_other occupied x b 0 0 (eqb-false b x e)) (sym (and-true (flag occupied b))))

-- No bay is marked at first, one more with each carrier.
abbrev pub OccupiedTo : Placement → List ℕ → ℕ → Type 0
OccupiedTo at occupied c = Occupied (take c at) occupied

pub none-occupied : Occupied [] (replicate span 0)
unfolding elem
none-occupied = record { long = length-replicate {A = ℕ} span 0; marks = λ b h. ap (λ v. eqb v 1) (get_or-replicate span b 0 0 h) }

pub occupied-more : (at : Placement) (occupied : List ℕ) (c : ℕ) → c < length at → get_or at c 0 < span
    → OccupiedTo at occupied c → OccupiedTo at (set occupied (get_or at c 0) 1) (c + 1)
occupied-more at occupied c h k o = record {
  long = length-set occupied (get_or at c 0) 1 ∙ o.long;
  marks = λ b l.
      rw (add-one c, take-suc at c 0 h, elem-last b (take c at) (get_or at c 0))
      (marked occupied (get_or at c 0) (rw o.long k) b ∙ ap (λ v. v or eqb b (get_or at c 0)) (o.marks b l));
}

pub occupied-all : (at : Placement) (occupied : List ℕ) (c : ℕ) → c ≤ length at → length at ≤ c → OccupiedTo at occupied c → Occupied at occupied
occupied-all at occupied c l h o =
    let e : c ≡ length at = omega arith in
    let whole : take c at ≡ at = ap (λ k. take k at) e ∙ take-length at in
    rw whole at o

-- A legal crossing: its bay to is occupied, its bay from no more, every other as it was.
module _ (Y : Yard) (at : Placement) (x : Crossing) (l : Legal Y at x) where
  into : In x.to (move at x)
  into = rw (move-self Y at x l) at (bay-in (move at x) x.carrier (rw length-set l.there))

  other-stays : (b : Bay) → (b ≡ x.from → ⊥) → In b at → In b (move at x)
  other-stays b n i =
      let c = carrier_at at b in
      let there : c < length at = place_of-there at b i in
      let here : bay_of at c ≡ b = place_of-bay at b i in
      by_cases (eqb c x.carrier)
      (λ e. absurd (n (sym here ∙ ap (bay_of at) (eqb-true c x.carrier e) ∙ l.stands)))
      (λ e. rw (move-other Y at x l c e ∙ here) at (bay-in (move at x) c (rw length-set there)))

  moved-set : ((i j : Carrier) → i < length at → j < length at → bay_of at i ≡ bay_of at j → i ≡ j) → (b : Bay)
      → (elem b at and not (eqb b x.from)) or eqb b x.to ≡ elem b (move at x)
  unfolding ◌and◌ ◌or◌
  moved-set apart b =
      by_cases (eqb b x.to)
      (λ e. or_right (elem b at and not (eqb b x.from)) (eqb b x.to) e ∙ sym (rw (eqb-true b x.to e) into))
      (λ e. by_cases (eqb b x.from)
      (λ f. rw (eqb-true b x.from f) (rw (move-empties Y at x l apart) (no_more (elem x.from at) (eq-eqb x.from x.from refl) (rw (eqb-true b x.from f) at e))))
      (λ f. by_cases (elem b at)
      (λ i. rw (e, f, i, other-stays b (eqb-false b x.from f) i))
      (λ o. rw (e, f, o, move-out Y at x l b o (eqb-false b x.to e)))))
    where
      no_more : (p : Bool) {q r : Bool} → q ≡ true → r ≡ false → (p and not q) or r ≡ false
      no_more true h k = rw (h, k)
      no_more false h k = rw k

-- What holds once the first `i` crossings are played.
pub record Walked (Y : Yard) (rows : ℕ) (table : List ℕ) (at₀ : Placement) (plan : List ℕ) (at : Placement) (occupied : List ℕ) (i : ℕ) : Type 0 where
  pub stands : Standing Y rows table at occupied
  pub decides : first_illegal Y at₀ 0 (crossings plan) ≡ first_illegal Y at i (drop i (crossings plan))
  pub moved : after at₀ (crossings plan) ≡ after at (drop i (crossings plan))

pub walked_start : (Y : Yard) (rows : ℕ) (table : List ℕ) (at : Placement) (plan occupied : List ℕ) → Standing Y rows table at occupied
    → Walked Y rows table at plan at occupied 0
walked_start Y rows table at plan occupied s = record { stands = s; decides = refl; moved = refl }

-- A carrier that crosses to a bay with a row stands in one again.
pub rows-kept : (rows : ℕ) (table : List ℕ) (at : Placement) (x : Crossing) → InRows rows table at → x.carrier < length at → x.to < rows
    → InRows rows table (set at x.carrier x.to)
rows-kept rows table at x r hc ht = record {
  few = r.few;
  long = r.long;
  inside = λ c k. by_cases (eqb c x.carrier)
      (λ e. rw (eqb-true c x.carrier e, get_or-set_same at x.carrier x.to 0 hc) ht)
      (λ e. rw (get_or-set_other at x.carrier c x.to 0 (eqb-false c x.carrier e)) (r.inside c (rw length-set at k)));
}

module _ (Y : Yard) (rows : ℕ) (table : List ℕ) (at₀ : Placement) (plan : List ℕ) (at : Placement) (occupied : List ℕ) (i : ℕ)
    (w : Walked Y rows table at₀ plan at occupied i) where
  module _ (more : i < length plan) (x : Crossing) (is : x ≡ named (crossings plan) i) where
    next : drop i (crossings plan) ≡ x ∷ drop (suc i) (crossings plan)
    next = rw is (rest-next plan i more)

    pub walked_on : legal Y at x ≡ true → x.from < span → x.to < span
        → Walked Y rows table at₀ plan (move at x) (set (set occupied x.from 0) x.to 1) (i + 1)
    unfolding first_illegal after
    walked_on t hf ht =
        let l = legal-facts Y at x t in
        let s = w.stands in
        record {
          stands = record {
            rails = s.rails;
            few = s.few;
            apart = move-apart Y at x l s.apart;
            inside = λ c k. by_cases (eqb c x.carrier)
                (λ e. rw (eqb-true c x.carrier e, move-self Y at x l) (s.rails.inside x.from x.to l.rail).1)
                (λ e. rw (move-other Y at x l c e) (s.inside c (rw length-set at k)));
            held = record {
              long = length-set (set occupied x.from 0) x.to 1 ∙ length-set occupied x.from 0 ∙ s.held.long;
              marks = λ b k.
                  marked (set occupied x.from 0) x.to (rw (length-set, s.held.long) ht) b
                  ∙ ap (λ v. v or eqb b x.to) (unmarked occupied x.from (rw s.held.long hf) b ∙ ap (λ v. v and not (eqb b x.from)) (s.held.marks b k))
                  ∙ moved-set Y at x l s.apart b;
            };
          };
          decides = w.decides ∙ ap (first_illegal Y at i) next ∙ rw (t, add-one i);
          moved = w.moved ∙ ap (after at) next ∙ rw (add-one i);
        }

    pub walked-illegal : legal Y at x ≡ false → (at' : Placement) → Played Y at₀ (crossings plan) (some i) at'
    unfolding first_illegal
    walked-illegal f at' = record {
      first = sym (w.decides ∙ ap (first_illegal Y at i) next ∙ rw f);
      moved = λ h. never-some i (sym h);
    }

  pub walked_end : length plan ≤ i → Played Y at₀ (crossings plan) none at
  unfolding first_illegal after
  walked_end h = record {
    first = sym (w.decides ∙ ap (first_illegal Y at i) (rest-none plan i h));
    moved = λ e. sym (w.moved ∙ ap (after at) (rest-none plan i h));
  }

-- The count of legal crossings is the name of the first illegal one, or that of all.
pub legal-to-before : (i count : ℕ) → i < count → legal_to i count ≡ some i
unfolding legal_to
legal-to-before i count h = rw (lt-ltb i count h)

pub legal-to-end : (i count : ℕ) → count ≤ i → legal_to i count ≡ none
unfolding legal_to
legal-to-end i count h = rw (le-ltb i count h)
