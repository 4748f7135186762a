-- One pass over plan and marks: what is done of the rest, from a name on, and what each of the passes has worked out by then. At each turn what stands
-- there, and then what the rest gives, is the whole.
use Rattle.std.specs.Prelude.{if◌then◌else◌}
use mathlib.Core.Path.{◌≡◌, refl, sym, ◌∙◌, ap, ap₂}
use mathlib.Core.List.{List, [], ◌∷◌}
use Prim.Native.Nat.{ℕ, suc, ◌≤◌, ◌<◌, ◌+◌}
use native.Mathlib.Omega.{arith}
use native.Mathlib.Numerals.{add-one}
use borrow.Author.Tests.{eq-eqb, ne_eqb, eqb-true, eqb-false}
use lib.Dec.{eqb}
use lib.ListN.{length, get_or, drop, set, replicate, length-set, length-replicate, get_or-replicate}
use lib.Seq.{drop-cons, get_or-set_same, get_or-set_other}
use Rattle.lists.proofs.Lists.{low_zeros, low-set}
use Rattle.paper.specs.Basics.{◌and◌}
use Rattle.paper.specs.Limits.{most_bays}
use Rattle.paper.specs.Yard.{Placement, Carrier, Crossing, crossings, named, after, move}
use Rattle.paper.specs.Dependence.{done, done_of, count_of}
use Rattle.paper.proofs.Tests.{by_cases}
use Rattle.plans.proofs.Rest.{rest-next, rest-none}
use Rattle.bills.specs.Billing.{untouched, last_done}

-- what is done from the name i on
abbrev pub rest : List ℕ → List ℕ → ℕ → List Crossing
rest plan marks i = done_of (drop i (crossings plan)) (drop i marks)

module _ (plan marks : List ℕ) (len : length marks ≡ length plan) (i : ℕ) where
  module _ (more : i < length plan) where
    turn : rest plan marks i ≡ done_of (named (crossings plan) i ∷ drop (suc i) (crossings plan)) (get_or marks i 0 ∷ drop (suc i) marks)
    turn = ap₂ done_of (rest-next plan i more) (drop-cons marks i 0 (rw len more))

    pub rest-done : get_or marks i 0 ≡ 1 → rest plan marks i ≡ named (crossings plan) i ∷ rest plan marks (i + 1)
    unfolding done_of
    rest-done e = turn ∙ rw (eq-eqb (get_or marks i 0) 1 e, add-one i)

    pub rest-undone : (get_or marks i 0 ≡ 1 → ⊥) → rest plan marks i ≡ rest plan marks (i + 1)
    unfolding done_of
    rest-undone u = turn ∙ rw (ne_eqb (get_or marks i 0) 1 u, add-one i)

  pub rest-ends : length plan ≤ i → rest plan marks i ≡ []
  unfolding done_of
  rest-ends h = ap (λ l. done_of l (drop i marks)) (rest-none plan i h)

-- ## The placement

pub record Moving (plan marks : List ℕ) (at₀ at : Placement) (i : ℕ) : Type 0 where
  pub long : length at ≡ length at₀
  pub whole : after at (rest plan marks i) ≡ after at₀ (rest plan marks 0)

pub moving-start : (plan marks : List ℕ) (at : Placement) → Moving plan marks at at 0
moving-start plan marks at = record { long = refl; whole = refl }

module _ (plan marks : List ℕ) (len : length marks ≡ length plan) (at₀ at : Placement) (i : ℕ) (m : Moving plan marks at₀ at i) where
  module _ (more : i < length plan) where
    pub moving-done : get_or marks i 0 ≡ 1 → (x : Crossing) → x ≡ named (crossings plan) i → Moving plan marks at₀ (move at x) (i + 1)
    unfolding after
    moving-done e x is = record {
      long = length-set at x.carrier x.to ∙ m.long;
      whole = ap (after at) (ap (λ y. y ∷ rest plan marks (i + 1)) is ∙ sym (rest-done plan marks len i more e)) ∙ m.whole;
    }

    pub moving-undone : (get_or marks i 0 ≡ 1 → ⊥) → Moving plan marks at₀ at (i + 1)
    moving-undone u = record {
      long = m.long;
      whole = ap (after at) (sym (rest-undone plan marks len i more u)) ∙ m.whole;
    }

  pub moving-ends : length plan ≤ i → at ≡ after at₀ (done_of (crossings plan) marks)
  unfolding after
  moving-ends h = sym (ap (after at) (rest-ends plan marks len i h)) ∙ m.whole

-- ## How many

pub record Counting (plan marks : List ℕ) (count i : ℕ) : Type 0 where
  pub low : count ≤ i
  pub whole : count + length (rest plan marks i) ≡ length (rest plan marks 0)

module _ (plan marks : List ℕ) (len : length marks ≡ length plan) (count i : ℕ) (k : Counting plan marks count i) where
  module _ (more : i < length plan) where
    pub counting-done : get_or marks i 0 ≡ 1 → Counting plan marks (count + 1) (i + 1)
    counting-done e = record {
      low = omega (arith, k.low);
      whole = let r = ap length (rest-done plan marks len i more e) in omega (arith, r, k.whole);
    }

    pub counting-undone : (get_or marks i 0 ≡ 1 → ⊥) → Counting plan marks count (i + 1)
    counting-undone u = record {
      low = omega (arith, k.low);
      whole = let r = ap length (rest-undone plan marks len i more u) in omega (arith, r, k.whole);
    }

  pub counting-ends : length plan ≤ i → count ≡ length (done_of (crossings plan) marks)
  counting-ends h = let r = ap length (rest-ends plan marks len i h) in omega (arith, r, k.whole)

-- ## Each carrier's

-- the highest done name of c, where `last` is the highest below i
abbrev pub last_from : List ℕ → List ℕ → Carrier → ℕ → ℕ → ℕ
last_from plan marks c last i = last_done c last i (drop i (crossings plan)) (drop i marks)

pub record Billing (plan marks billed last : List ℕ) (i : ℕ) : Type 0 where
  pub all_billed : length billed ≡ most_bays
  pub all-last : length last ≡ most_bays
  pub low : (c : Carrier) → get_or billed c 0 ≤ i
  pub counts : (c : Carrier) → c < most_bays → get_or billed c 0 + count_of c (rest plan marks i) ≡ count_of c (rest plan marks 0)
  pub names : (c : Carrier) → c < most_bays → last_from plan marks c (get_or last c 0) i ≡ last_from plan marks c untouched 0

pub billing-start : (plan marks : List ℕ) → Billing plan marks (replicate most_bays 0) (replicate most_bays untouched) 0
billing-start plan marks = record {
  all_billed = length-replicate {A = ℕ} most_bays 0;
  all-last = length-replicate {A = ℕ} most_bays untouched;
  low = low_zeros most_bays;
  counts = λ c h. let z = get_or-replicate {A = ℕ} most_bays c 0 0 h in omega arith;
  names = λ c h. ap (λ l. last_from plan marks c l 0) (get_or-replicate {A = ℕ} most_bays c untouched 0 h);
}

count-cons : (c : Carrier) (x : Crossing) (xs : List Crossing) → count_of c (x ∷ xs) ≡ (if eqb x.carrier c then suc (count_of c xs) else count_of c xs)
unfolding count_of
count-cons c x xs = refl

last_cons : (c : Carrier) (last i : ℕ) (x : Crossing) (xs : List Crossing) (m : ℕ) (ms : List ℕ)
    → last_done c last i (x ∷ xs) (m ∷ ms) ≡ last_done c (if done m and eqb x.carrier c then i else last) (suc i) xs ms
unfolding last_done
last_cons c last i x xs m ms = refl

module _ (plan marks : List ℕ) (len : length marks ≡ length plan) (billed last : List ℕ) (i : ℕ) (b : Billing plan marks billed last i) where
  module _ (more : i < length plan) where
    last_turn : (c : Carrier) (l : ℕ) → last_from plan marks c l i
        ≡ last_from plan marks c (if done (get_or marks i 0) and eqb (named (crossings plan) i).carrier c then i else l) (i + 1)
    last_turn c l =
        ap₂ (last_done c l i) (rest-next plan i more) (drop-cons marks i 0 (rw len more))
        ∙ last_cons c l i (named (crossings plan) i) (drop (suc i) (crossings plan)) (get_or marks i 0) (drop (suc i) marks)
        ∙ rw (add-one i)

    pub billing-done : get_or marks i 0 ≡ 1 → (x : Crossing) → x ≡ named (crossings plan) i → x.carrier < most_bays
        → Billing plan marks (set billed x.carrier (get_or billed x.carrier 0 + 1)) (set last x.carrier i) (i + 1)
    unfolding ◌and◌
    billing-done e x is small =
        let d = eq-eqb (get_or marks i 0) 1 e in
        let hb : x.carrier < length billed = rw b.all_billed small in
        let hl : x.carrier < length last = rw b.all-last small in
        record {
          all_billed = length-set billed x.carrier _ ∙ b.all_billed;
          all-last = length-set last x.carrier i ∙ b.all-last;
          low = let l = b.low x.carrier in low-set billed x.carrier _ i (i + 1) b.low (omega arith) (omega arith);
          counts = λ c h.
              let r = ap (count_of c) (rest-done plan marks len i more e) ∙ count-cons c (named (crossings plan) i) (rest plan marks (i + 1)) in
              let w = b.counts c h in
              by_cases (eqb c x.carrier)
              (λ z.
              let same = eqb-true c x.carrier z in
              let g = ap (λ k. get_or (set billed x.carrier (get_or billed x.carrier 0 + 1)) k 0) same ∙ get_or-set_same billed x.carrier (get_or billed x.carrier 0 + 1) 0 hb in
              let r' : count_of c (rest plan marks i) ≡ suc (count_of c (rest plan marks (i + 1))) = r ∙ rw (eq-eqb (named (crossings plan) i).carrier c (sym (ap (λ y. y.carrier) is) ∙ sym same)) in
              let g' : get_or (set billed x.carrier (get_or billed x.carrier 0 + 1)) c 0 ≡ get_or billed c 0 + 1 = g ∙ ap (λ k. get_or billed k 0 + 1) (sym same) in
              omega (arith, g', r', w))
              (λ z.
              let other = eqb-false c x.carrier z in
              let g = get_or-set_other billed x.carrier c (get_or billed x.carrier 0 + 1) 0 other in
              let r' : count_of c (rest plan marks i) ≡ count_of c (rest plan marks (i + 1)) = r ∙ rw (ne_eqb (named (crossings plan) i).carrier c (λ q. other (sym (ap (λ y. y.carrier) is ∙ q)))) in
              omega (arith, g, r', w));
          names = λ c h.
              let t = last_turn c (get_or last c 0) in
              let w = b.names c h in
              by_cases (eqb c x.carrier)
              (λ z.
              let same = eqb-true c x.carrier z in
              let g : get_or (set last x.carrier i) c 0 ≡ i = ap (λ k. get_or (set last x.carrier i) k 0) same ∙ get_or-set_same last x.carrier i 0 hl in
              let q : (if done (get_or marks i 0) and eqb (named (crossings plan) i).carrier c then i else get_or last c 0) ≡ i =
              rw (d, eq-eqb (named (crossings plan) i).carrier c (sym (ap (λ y. y.carrier) is) ∙ sym same)) in
              ap (λ l. last_from plan marks c l (i + 1)) (g ∙ sym q) ∙ sym t ∙ w)
              (λ z.
              let other = eqb-false c x.carrier z in
              let g = get_or-set_other last x.carrier c i 0 other in
              let q : (if done (get_or marks i 0) and eqb (named (crossings plan) i).carrier c then i else get_or last c 0) ≡ get_or last c 0 =
              rw (d, ne_eqb (named (crossings plan) i).carrier c (λ e'. other (sym (ap (λ y. y.carrier) is ∙ e')))) in
              ap (λ l. last_from plan marks c l (i + 1)) (g ∙ sym q) ∙ sym t ∙ w);
        }

    pub billing-undone : (get_or marks i 0 ≡ 1 → ⊥) → Billing plan marks billed last (i + 1)
    unfolding ◌and◌
    billing-undone u = record {
      all_billed = b.all_billed;
      all-last = b.all-last;
      low = λ c. let l = b.low c in omega arith;
      counts = λ c h. let r = ap (count_of c) (rest-undone plan marks len i more u) in let w = b.counts c h in omega arith;
      names = λ c h.
          let q : (if done (get_or marks i 0) and eqb (named (crossings plan) i).carrier c then i else get_or last c 0) ≡ get_or last c 0 = rw (ne_eqb (get_or marks i 0) 1 u) in
          ap (λ l. last_from plan marks c l (i + 1)) (sym q) ∙ sym (last_turn c (get_or last c 0)) ∙ b.names c h;
    }

  pub billing-counts : length plan ≤ i → (c : Carrier) → c < most_bays → get_or billed c 0 ≡ count_of c (done_of (crossings plan) marks)
  unfolding count_of
  billing-counts h c k = let r = ap (count_of c) (rest-ends plan marks len i h) in let w = b.counts c k in omega arith

  pub billing-names : length plan ≤ i → (c : Carrier) → c < most_bays → get_or last c 0 ≡ last_done c untouched 0 (crossings plan) marks
  unfolding last_done
  billing-names h c k = sym (ap (λ l. last_done c (get_or last c 0) i l (drop i marks)) (rest-none plan i h)) ∙ b.names c k
