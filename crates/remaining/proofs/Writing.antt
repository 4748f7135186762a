-- What is still in the plan is counted and written name by name: what is written so far and then what is left of the rest is the whole.
use Rattle.std.specs.Prelude.{cond, count_by}
use Rattle.std.proofs.lemmas.List.Sums.{sum_by-cons}
use mathlib.Core.Path.{◌≡◌, refl, sym, ◌∙◌, ap, ap₂}
use mathlib.Core.List.{List, [], ◌∷◌, ◌++◌, append-nil}
use Prim.Native.Nat.{ℕ, suc, ◌≤◌, ◌<◌, ◌+◌}
use native.Mathlib.Omega.{arith}
use native.Mathlib.Numerals.{add-one}
use mir.Val.{bool_byte}
use lib.Dec.{eqb, ltb}
use lib.ListN.{length, get_or, take, drop, set, length-set, take-append-drop, drop_of_length-le}
use lib.Seq.{drop-cons, take-set-le, take-suc-set, drop-set-lt, append_snoc}
use borrow.Author.Tests.{eq-eqb, ne_eqb, ltb-true, ltb-false}
use Rattle.paper.proofs.Tests.{by_cases}
use Rattle.trips.specs.Names.{left}
use Rattle.trips.proofs.Naming.{left_in, left_out, by_byte}

-- what is left from the name m on
abbrev pub rest : List ℕ → List ℕ → ℕ → List ℕ
rest plan gone m = left (drop m gone) (drop m plan)

rest-cons : (plan gone : List ℕ) (m : ℕ) → m < length plan → length gone ≡ length plan
    → rest plan gone m ≡ left (get_or gone m 0 ∷ drop (suc m) gone) (get_or plan m 0 ∷ drop (suc m) plan)
rest-cons plan gone m l len = rw (drop-cons gone m 0 (omega arith), drop-cons plan m 0 l)

pub rest_in : (plan gone : List ℕ) (m : ℕ) → m < length plan → length gone ≡ length plan → get_or gone m 0 ≡ 0
    → rest plan gone m ≡ get_or plan m 0 ∷ rest plan gone (suc m)
rest_in plan gone m l len z = rest-cons plan gone m l len ∙ left_in (get_or gone m 0) (drop (suc m) gone) (get_or plan m 0) (drop (suc m) plan) z

pub rest_out : (plan gone : List ℕ) (m : ℕ) → m < length plan → length gone ≡ length plan → (get_or gone m 0 ≡ 0 → ⊥)
    → rest plan gone m ≡ rest plan gone (suc m)
rest_out plan gone m l len z = rest-cons plan gone m l len ∙ left_out (get_or gone m 0) (drop (suc m) gone) (get_or plan m 0) (drop (suc m) plan) z

pub rest_end : (plan gone : List ℕ) (m : ℕ) → length plan ≤ m → length gone ≡ length plan → rest plan gone m ≡ []
unfolding left
rest_end plan gone m h len = rw (drop_of_length-le gone {i = m} (omega arith))

-- as many bytes are 0 as crossings are left
pub zeros-left : (gone plan : List ℕ) → length gone ≡ length plan → count_by (λ byte. eqb byte 0) gone ≡ length (left gone plan)
unfolding left
zeros-left [] plan h = refl
zeros-left (g ∷ gone) [] h = absurd (omega arith)
zeros-left (g ∷ gone) (x ∷ plan) h =
    let ih = zeros-left gone plan (omega arith) in
    sum_by-cons (λ byte. cond (eqb byte 0) 1 0) g gone ∙ by_cases (eqb g 0) (λ e. rw e (omega (arith, ih))) (λ e. rw e (omega (arith, ih)))

-- n numbers are written, of the first m names
pub record Writing (plan gone out₀ out : List ℕ) (n m : ℕ) : Type 0 where
  pub within : m ≤ length plan
  pub long : length out ≡ length out₀
  pub count : n + length (rest plan gone m) ≡ length (left gone plan)
  pub so_far : take n out ++ rest plan gone m ≡ left gone plan
  pub beyond : drop (length (left gone plan)) out ≡ drop (length (left gone plan)) out₀

module _ (plan gone out₀ : List ℕ) (len : length gone ≡ length plan) where
  pub writing_start : Writing plan gone out₀ out₀ 0 0
  writing_start = record { within = omega arith; long = refl; count = omega arith; so_far = refl; beyond = refl }

  -- some are not written yet, so there are names to come
  pub writing-inside : (out : List ℕ) (n m : ℕ) → Writing plan gone out₀ out n m → n < length (left gone plan) → m < length plan
  writing-inside out n m w h =
      by_cases (ltb m (length plan))
      (λ t. ltb-true m (length plan) t)
      (λ t. absurd (omega (arith, w.count, ap length (rest_end plan gone m (ltb-false m (length plan) t) len))))

  module _ (out : List ℕ) (n m : ℕ) (w : Writing plan gone out₀ out n m) (more : n < length (left gone plan)) (room : length (left gone plan) ≤ length out₀) where
    l : m < length plan
    l = writing-inside out n m w more

    writing-in : get_or gone m 0 ≡ 0 → Writing plan gone out₀ (set out n (get_or plan m 0)) (n + 1) (m + 1)
    writing-in z =
        let here = rest_in plan gone m l len z in
        let next : length (rest plan gone m) ≡ suc (length (rest plan gone (m + 1))) = rw (add-one m) (ap length here) in
        let inside : n < length out = omega (arith, w.long) in
        let all : take n out ++ (get_or plan m 0 ∷ rest plan gone (suc m)) ≡ left gone plan = ap (λ l. take n out ++ l) (sym here) ∙ w.so_far in
        record {
          within = omega (arith, l);
          long = length-set out n (get_or plan m 0) ∙ w.long;
          count = omega (arith, w.count);
          so_far = rw (add-one m, add-one n, take-suc-set out n (get_or plan m 0) inside) (append_snoc (take n out) (get_or plan m 0) (rest plan gone (suc m)) ∙ all);
          beyond = drop-set-lt (length (left gone plan)) out n (get_or plan m 0) (omega (arith, w.count)) ∙ w.beyond;
        }

    -- what is written of a dropped crossing is not among the first n
    writing-out : (get_or gone m 0 ≡ 0 → ⊥) → Writing plan gone out₀ (set out n (get_or plan m 0)) n (m + 1)
    writing-out z =
        let here = rest_out plan gone m l len z in
        let same : length (rest plan gone m) ≡ length (rest plan gone (m + 1)) = rw (add-one m) (ap length here) in
        record {
          within = omega (arith, l);
          long = length-set out n (get_or plan m 0) ∙ w.long;
          count = omega (arith, w.count);
          so_far = rw (add-one m, take-set-le n out n (get_or plan m 0) (omega arith)) (ap (λ l. take n out ++ l) (sym here) ∙ w.so_far);
          beyond = drop-set-lt (length (left gone plan)) out n (get_or plan m 0) (omega arith) ∙ w.beyond;
        }

    pub writing-next : (k : ℕ) → k ≡ bool_byte (eqb (get_or gone m 0) 0) → Writing plan gone out₀ (set out n (get_or plan m 0)) (n + k) (m + 1)
    writing-next k is =
        by_byte (get_or gone m 0)
        (λ z. let one : k ≡ 1 = is ∙ ap bool_byte (eq-eqb _ _ z) in rw one (writing-in z))
        (λ z.
        let none : n + k ≡ n = let zero_more : k ≡ 0 = is ∙ ap bool_byte (ne_eqb _ _ z) in omega arith in
        rw none (writing-out z))

  pub writing-end : (out : List ℕ) (n m : ℕ) → length (left gone plan) ≤ n → Writing plan gone out₀ out n m → out ≡ left gone plan ++ drop (length (left gone plan)) out₀
  writing-end out n m h w =
      let t : n ≡ length (left gone plan) = omega (arith, w.count) in
      let e : rest plan gone m ≡ [] = empty (rest plan gone m) (omega (arith, w.count)) in
      let all : take n out ≡ left gone plan = sym (append-nil (take n out)) ∙ ap (λ l. take n out ++ l) (sym e) ∙ w.so_far in
      sym (take-append-drop n out) ∙ ap₂ (λ a b. a ++ b) all (ap (λ k. drop k out) t ∙ w.beyond)
    where
      empty : (l : List ℕ) → length l ≡ 0 → l ≡ []
      empty [] h = refl
      empty (x ∷ l) h = absurd (omega arith)
