-- Dropping goes up name by name: what is dropped so far, and then what dropping the rest would give, is the whole.
use Rattle.std.specs.Prelude.{if◌then◌else◌}
use mathlib.Core.Path.{◌≡◌, refl, sym, ◌∙◌, ap}
use mathlib.Core.List.{List, ◌∷◌}
use Prim.Native.Nat.{ℕ, zero, suc, ◌≤◌, ◌<◌, ◌+◌}
use native.Mathlib.Omega.{arith}
use native.Mathlib.Numerals.{add-one}
use mathlib.Core.Bool.{true, false}
use lib.Dec.{eqb}
use lib.ListN.{length, get_or, take, drop, set, length-set, take-append-drop}
use lib.Seq.{set-get_or, get_or-set_same, get_or-set_other, drop-cons, take-suc-set, drop-set-lt, append_snoc}
use Rattle.paper.specs.Yard.{Carrier, Crossing, crossings, named}
use Rattle.paper.proofs.Tests.{by_cases}
use Rattle.plans.proofs.Rest.{rest-next}
use Rattle.trips.specs.Trips.{is_of}
use Rattle.trips.specs.Names.{without_own, drop_trip}
use Rattle.trips.proofs.Naming.{drop-zero}
use Rattle.chains.specs.Links.{Passed}
use borrow.Author.Tests.{eqb-true, eqb-false}

own-step : (c : Carrier) (n g : ℕ) (gs : List ℕ) (y : Crossing) (ys : List Crossing)
    → without_own c (suc n) (g ∷ gs) (y ∷ ys) ≡ (if is_of c y then 1 else g) ∷ without_own c n gs ys
unfolding without_own
own-step c n g gs y ys = by_cases (is_of c y) (λ i. rw i) (λ i. rw i)

module _ (plan gone : List ℕ) (c : Carrier) (m n : ℕ) where
  trim-next : (v k : ℕ) → m < length plan → length gone ≡ length plan → v ≡ (if is_of c (named (crossings plan) m) then 1 else get_or gone m 0) → k ≡ suc n
      → drop_trip c (m + 1) n (set gone m v) (crossings plan) ≡ drop_trip c m k gone (crossings plan)
  trim-next v k l len is more =
      let rest = without_own c n (drop (suc m) gone) (drop (suc m) (crossings plan)) in
      let here : without_own c (suc n) (drop m gone) (drop m (crossings plan)) ≡ v ∷ rest =
      rw (drop-cons gone m 0 (omega arith), rest-next plan m l, is)
      (own-step c n (get_or gone m 0) (drop (suc m) gone) (named (crossings plan) m) (drop (suc m) (crossings plan))) in
      rw (add-one m, more, take-suc-set gone m v (omega arith), drop-set-lt (suc m) gone m v (omega arith), here) (append_snoc (take m gone) v rest)

  pub trim_end : (k : ℕ) → k ≡ 0 → gone ≡ drop_trip c m k gone (crossings plan)
  trim_end k z = rw (z, drop-zero) (sym (take-append-drop m gone))

-- one name more is dropped if it is the carrier's, and those that were stay so
pub record Trims (plan gone : List ℕ) (c : Carrier) (m : ℕ) (gone' : List ℕ) : Type 0 where
  pub long : length gone' ≡ length gone
  pub keeps : (k : ℕ) → get_or gone k 0 ≡ 1 → get_or gone' k 0 ≡ 1
  pub next : (n k : ℕ) → k ≡ suc n → drop_trip c (m + 1) n gone' (crossings plan) ≡ drop_trip c m k gone (crossings plan)

module _ (plan gone : List ℕ) (c : Carrier) (m : ℕ) (inside : m < length plan) (len : length gone ≡ length plan) where
  pub trims-own : is_of c (named (crossings plan) m) ≡ true → Trims plan gone c m (set gone m 1)
  trims-own own = record {
    long = length-set gone m 1;
    keeps = λ k e.
        by_cases (eqb k m)
        (λ z. let same = eqb-true k m z in rw same (get_or-set_same gone m 1 0 (omega arith)))
        (λ z. get_or-set_other gone m k 1 0 (eqb-false k m z) ∙ e);
    next = λ n k is. trim-next plan gone c m n 1 k inside len (rw own refl) is;
  }

  pub trims-other : is_of c (named (crossings plan) m) ≡ false → Trims plan gone c m gone
  trims-other other = record {
    long = refl;
    keeps = λ k e. e;
    next = λ n k is.
        ap (λ gs. drop_trip c (m + 1) n gs (crossings plan)) (sym (set-get_or gone m 0))
        ∙ trim-next plan gone c m n (get_or gone m 0) k inside len (rw other refl) is;
  }

-- Names that are passed are dropped or other carriers', so dropping leaves them as they are.
pub trim-over : (plan gone : List ℕ) (c : Carrier) → length gone ≡ length plan → (key d m r n k : ℕ) → r ≡ m + d → k ≡ d + n → r ≤ length plan → key ≡ c
    → Passed plan gone 1 key m r → drop_trip c r n gone (crossings plan) ≡ drop_trip c m k gone (crossings plan)
trim-over plan gone c len key zero m r n k at more h is p =
    let here : r ≡ m = omega arith in
    let many : n ≡ k = omega arith in
    ap (λ j. drop_trip c j n gone (crossings plan)) here ∙ ap (λ j. drop_trip c m j gone (crossings plan)) many
trim-over plan gone c len key (suc d) m r n k at more h is p =
    let g = get_or gone m 0 in
    let v : g ≡ (if is_of c (named (crossings plan) m) then 1 else g) =
    by_cases (is_of c (named (crossings plan) m))
    (λ t. rw t (p m (omega arith) (omega arith) (eqb-true _ _ t ∙ sym is)))
    (λ t. rw t) in
    trim-over plan gone c len key d (m + 1) r n (d + n) (omega arith) refl h is (λ j l. p j (omega arith))
    ∙ ap (λ gs. drop_trip c (m + 1) (d + n) gs (crossings plan)) (sym (set-get_or gone m 0))
    ∙ trim-next plan gone c m (d + n) g k (omega arith) len v (omega arith)
