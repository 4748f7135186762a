-- Why the last names say where the carriers stand: a carrier that has crossed stands where the crossing of its last name leads, and any other where it stood.
use mathlib.Core.Path.{◌≡◌, refl, sym, ◌∙◌, ap}
use mathlib.Core.List.{List}
use Prim.Native.Nat.{ℕ, ◌≤◌, ◌<◌, ◌+◌}
use native.Mathlib.Omega.{arith}
use borrow.Author.Tests.{lt-ltb, le-ltb, eqb-true, eqb-false}
use lib.Dec.{eqb}
use lib.ListN.{length, get_or, set, replicate, length-set, get_or-replicate}
use lib.Seq.{get_or-set_same, get_or-set_other, ext_get_or}
use Rattle.paper.specs.Limits.{most_bays}
use Rattle.paper.specs.Yard.{Carrier, Placement, Crossing, crossings, named, after, move, most_crossings}
use Rattle.paper.specs.Dependence.{done_of}
use Rattle.paper.proofs.Tests.{by_cases}
use Rattle.bills.specs.Billing.{untouched}
use Rattle.afresh.specs.Working.{led_to, Led}
use Rattle.afresh.proofs.Passing.{Moving, moving-start, moving-done, moving-undone, moving-ends}

-- ## The carriers led one by one

pub record Leading (plan last : List ℕ) (at₀ at : Placement) (c : Carrier) : Type 0 where
  pub long : length at ≡ most_bays
  pub so_far : (d : Carrier) → d < c → get_or at d 0 ≡ led_to plan (get_or last d 0) (get_or at₀ d 0)
  pub beyond : (d : Carrier) → c ≤ d → get_or at d 0 ≡ get_or at₀ d 0

pub leading-start : (plan last : List ℕ) (at₀ : Placement) → length at₀ ≡ most_bays → Leading plan last at₀ at₀ 0
leading-start plan last at₀ long = record { long = long; so_far = λ d h. absurd (omega arith); beyond = λ d h. refl }

module _ (plan last : List ℕ) (at₀ at : Placement) (c : Carrier) (l : Leading plan last at₀ at c) where
  pub leading-led : c < most_bays → get_or last c 0 < length plan → (x : Crossing) → x ≡ named (crossings plan) (get_or last c 0)
      → Leading plan last at₀ (set at c x.to) (c + 1)
  leading-led more named-there x is =
      let inside : c < length at = rw l.long more in
      let to : x.to ≡ led_to plan (get_or last c 0) (get_or at₀ c 0) = rw (lt-ltb (get_or last c 0) (length plan) named-there) (ap (λ y. y.to) is) in
      record {
        long = length-set at c x.to ∙ l.long;
        so_far = λ d h.
            by_cases (eqb d c)
            (λ e. rw (eqb-true d c e) (get_or-set_same at c x.to 0 inside ∙ to))
            (λ e. let other = eqb-false d c e in get_or-set_other at c d x.to 0 other ∙ l.so_far d (omega (arith, h, other)));
        beyond = λ d h. get_or-set_other at c d x.to 0 (λ e. absurd (omega (arith, e, h))) ∙ l.beyond d (omega arith);
      }

  pub leading-left : length plan ≤ get_or last c 0 → Leading plan last at₀ at (c + 1)
  leading-left nameless = record {
    long = l.long;
    so_far = λ d h.
        by_cases (eqb d c)
        (λ e. rw (eqb-true d c e) (l.beyond c (omega arith) ∙ rw (le-ltb (get_or last c 0) (length plan) nameless)))
        (λ e. let other = eqb-false d c e in l.so_far d (omega (arith, h, other)));
    beyond = λ d h. l.beyond d (omega arith);
  }

  pub leading_end : most_bays ≤ c → Led plan last at₀ at
  leading_end all = record { long = l.long; leads = λ d h. l.so_far d (omega arith) }

-- ## The last names along the pass: what the carriers' places would be by now

pub record Standing (plan marks : List ℕ) (at₀ : Placement) (last : List ℕ) (i : ℕ) : Type 0 where
  pub at : Placement
  pub moving : Moving plan marks at₀ at i
  pub leads : (c : Carrier) → c < most_bays → get_or at c 0 ≡ led_to plan (get_or last c 0) (get_or at₀ c 0)

pub standing-start : (plan marks : List ℕ) (at₀ : Placement) → length plan ≤ most_crossings → Standing plan marks at₀ (replicate most_bays untouched) 0
standing-start plan marks at₀ short = record {
  at = at₀;
  moving = moving-start plan marks at₀;
  leads = λ c h. rw (get_or-replicate {A = ℕ} most_bays c untouched 0 h, le-ltb untouched (length plan) short) refl;
}

module _ (plan marks : List ℕ) (len : length marks ≡ length plan) (at₀ : Placement) (long : length at₀ ≡ most_bays) (last : List ℕ) (all-last : length last ≡ most_bays) (i : ℕ)
    (s : Standing plan marks at₀ last i) where
  module _ (more : i < length plan) where
    pub standing-done : get_or marks i 0 ≡ 1 → (x : Crossing) → x ≡ named (crossings plan) i → x.carrier < most_bays
        → Standing plan marks at₀ (set last x.carrier i) (i + 1)
    standing-done e x is small =
        let hl : x.carrier < length last = rw all-last small in
        let ha : x.carrier < length s.at = rw (s.moving.long, long) small in
        record {
          at = move s.at x;
          moving = moving-done plan marks len at₀ s.at i s.moving more e x is;
          leads = λ c h.
              by_cases (eqb c x.carrier)
              (λ z. rw (eqb-true c x.carrier z, get_or-set_same last x.carrier i 0 hl, lt-ltb i (length plan) more) (get_or-set_same s.at x.carrier x.to 0 ha ∙ ap (λ y. y.to) is))
              (λ z.
              let other = eqb-false c x.carrier z in
              rw (get_or-set_other last x.carrier c i 0 other) (get_or-set_other s.at x.carrier c x.to 0 other ∙ s.leads c h));
        }

    pub standing-undone : (get_or marks i 0 ≡ 1 → ⊥) → Standing plan marks at₀ last (i + 1)
    standing-undone u = record { at = s.at; moving = moving-undone plan marks len at₀ s.at i s.moving more u; leads = s.leads }

  -- what is led by the last names is where the done crossings leave the carriers
  pub standing-end : length plan ≤ i → (at' : Placement) → Led plan last at₀ at' → at' ≡ after at₀ (done_of (crossings plan) marks)
  standing-end h at' led =
      ext_get_or 0 at' s.at (led.long ∙ sym (s.moving.long ∙ long))
      (λ c k. let small : c < most_bays = rw (← led.long) k in led.leads c small ∙ sym (s.leads c small))
      ∙ moving-ends plan marks len at₀ s.at i s.moving h
