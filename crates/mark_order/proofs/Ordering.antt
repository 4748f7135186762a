-- Why one pass tells whether the marks are in order: what is left of plan and marks decides, in view of the carriers and bays that an
-- undone crossing has touched so far.
use mathlib.Core.Path.{◌≡◌, refl, sym, ◌∙◌, ap, ap₂}
use mathlib.Core.Bool.{true, false}
use mathlib.Core.List.{List, ◌∷◌}
use Prim.Native.Nat.{ℕ, zero, suc, ◌≤◌, ◌<◌, ◌+◌}
use native.Mathlib.Omega.{arith}
use native.Mathlib.Numerals.{add-one}
use borrow.Author.Tests.{eq-eqb, ne_eqb}
use lib.Dec.{eqb}
use lib.ListN.{length, get_or, drop, set, replicate, length-set, length-replicate, get_or-replicate}
use lib.Seq.{drop-cons}
use Rattle.paper.specs.Basics.{◌or◌}
use Rattle.paper.specs.Limits.{most_bays}
use Rattle.paper.specs.Yard.{Crossing, crossings, named}
use Rattle.paper.specs.Dependence.{out_of_order}
use Rattle.paper.specs.OnePass.{Fits, order_pass}
use Rattle.paper.proofs.Tests.{or_left, or-neither}
use Rattle.paper.proofs.Marking.{flag, order-step, order-start, order-done}
use Rattle.plans.proofs.Rest.{rest-next, rest-none, fits-named}

-- The tables are 1 at each carrier and bay that an undone crossing among the first `i` has touched.
pub record Ordering (plan marks carriers bays : List ℕ) (i : ℕ) : Type 0 where
  pub all-carriers : length carriers ≡ most_bays
  pub all-bays : length bays ≡ most_bays
  pub so_far : out_of_order (crossings plan) marks ≡ order_pass (flag carriers) (flag bays) (drop i (crossings plan)) (drop i marks)

module _ (plan marks carriers bays : List ℕ) (i : ℕ) (o : Ordering plan marks carriers bays i) (more : i < length plan) (len : length marks ≡ length plan) (fits : Fits most_bays most_bays plan) (x : Crossing) (is : x ≡ named (crossings plan) i) where
  abbrev m : ℕ
  m = get_or marks i 0

  turn : out_of_order (crossings plan) marks ≡ order_pass (flag carriers) (flag bays) (x ∷ drop (suc i) (crossings plan)) (m ∷ drop (suc i) marks)
  turn = o.so_far ∙ ap₂ (order_pass (flag carriers) (flag bays)) (rw is (rest-next plan i more)) (drop-cons marks i 0 (rw len more))

  pub ordering-undone : (m ≡ 1 → ⊥) → Ordering plan marks (set carriers x.carrier 1) (set (set bays x.from 1) x.to 1) (i + 1)
  ordering-undone u =
      let small = fits-named most_bays most_bays plan fits i more x is in
      record {
        all-carriers = length-set carriers x.carrier 1 ∙ o.all-carriers;
        all-bays = length-set (set bays x.from 1) x.to 1 ∙ length-set bays x.from 1 ∙ o.all-bays;
        so_far =
            rw (add-one i)
            (turn ∙ order-step carriers bays x (drop (suc i) (crossings plan)) m (drop (suc i) marks)
            (rw o.all-carriers small.0) (rw o.all-bays small.1) (rw o.all-bays small.2) (ne_eqb m 1 u));
      }

  done-turn : m ≡ 1 → out_of_order (crossings plan) marks
      ≡ (flag carriers x.carrier or flag bays x.from or flag bays x.to) or order_pass (flag carriers) (flag bays) (drop (suc i) (crossings plan)) (drop (suc i) marks)
  done-turn e = turn ∙ order-done (flag carriers) (flag bays) x (drop (suc i) (crossings plan)) m (drop (suc i) marks) (eq-eqb m 1 e)

  pub ordering-done : m ≡ 1 → (flag carriers x.carrier or flag bays x.from or flag bays x.to) ≡ false → Ordering plan marks carriers bays (i + 1)
  unfolding ◌or◌
  ordering-done e f = record {
    all-carriers = o.all-carriers;
    all-bays = o.all-bays;
    so_far = rw (add-one i) (done-turn e ∙ ap (λ v. v or order_pass (flag carriers) (flag bays) (drop (suc i) (crossings plan)) (drop (suc i) marks)) f);
  }

  pub ordering-met : m ≡ 1 → (flag carriers x.carrier or flag bays x.from or flag bays x.to) ≡ true → true ≡ out_of_order (crossings plan) marks
  ordering-met e t = sym (done-turn e ∙ or_left _ _ t)

untouched : (j : ℕ) → j < most_bays → flag (replicate most_bays 0) j ≡ false
untouched j h = ap (λ v. eqb v 1) (get_or-replicate {A = ℕ} most_bays j 0 0 h)

-- While all are done nothing is touched.
module _ (plan marks : List ℕ) (len : length marks ≡ length plan) (fits : Fits most_bays most_bays plan) where
  pub ordering-start : (i : ℕ) → i ≤ length plan → ((k : ℕ) → k < i → get_or marks k 0 ≡ 1) → Ordering plan marks (replicate most_bays 0) (replicate most_bays 0) i
  ordering-start zero h d = record {
    all-carriers = length-replicate {A = ℕ} most_bays 0;
    all-bays = length-replicate {A = ℕ} most_bays 0;
    so_far = order-start most_bays most_bays (crossings plan) marks;
  }
  ordering-start (suc i) h d =
      let more : i < length plan = omega arith in
      let x = named (crossings plan) i in
      let small = fits-named most_bays most_bays plan fits i more x refl in
      let before = ordering-start i (omega arith) (λ k l. d k (omega arith)) in
      rw (add-one i)
      at
      (ordering-done plan marks (replicate most_bays 0) (replicate most_bays 0) i before more len fits x refl (d i (omega arith))
      (or-neither _ _ (or-neither _ _ (untouched x.carrier small.0) (untouched x.from small.1)) (untouched x.to small.2)))

pub ordering-end : (plan marks carriers bays : List ℕ) (i : ℕ) → Ordering plan marks carriers bays i → length plan ≤ i → false ≡ out_of_order (crossings plan) marks
unfolding order_pass
ordering-end plan marks carriers bays i o h =
    sym (o.so_far ∙ ap (λ l. order_pass (flag carriers) (flag bays) l (drop i marks)) (rest-none plan i h))
