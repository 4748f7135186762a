-- Comparing is denied exactly by the first of 1, 5, 8 that applies; 5 looks through the first list, then through the second.
use mathlib.Core.Path.{◌≡◌, refl, sym, ◌∙◌, ap}
use mathlib.Core.Bool.{true, false, not}
use mathlib.Core.List.{List, [], ◌∷◌}
use mathlib.Core.Logic.{◌↔◌, ◌⊎◌, inl, inr, ⊎_elim}
use mathlib.Core.Option.{some}
use Prim.Native.Nat.{ℕ, zero, suc, ◌<◌, ◌≤◌}
use native.Mathlib.Omega.{arith}
use lib.Dec.{eqb, ltb, leb}
use lib.ListN.{length, get_or}
use borrow.Author.Tests.{not-true, ltb-true, lt-ltb, leb-true, le-leb, eqb-false, ne_eqb}
use Rattle.paper.specs.Basics.{◌or◌, or_else, find, elem, ◌and◌}
use Rattle.paper.specs.Limits.{most_carriers}
use Rattle.paper.specs.Yard.{Carrier, most_crossings}
use Rattle.paper.specs.Docket.{Refusal, size, start, room, number, carried, granted, denied}
use Rattle.paper.proofs.Tests.{by_cases, by-option, not-both, never-some, some_same, or_left, or_right, or_cases, either}
use Rattle.paper.proofs.Determined.{docket-tells}
use Rattle.exactly.specs.First.{NoneOf, Given, distinct, FirstOf}
use Rattle.exactly.proofs.First.{after-it, plain-test, carrying-test, known-test}
use Rattle.exactly.proofs.Six.{Refuses}
use Rattle.comparing.specs.Comparing.{carrier_of, first_above, refusal, equal_leading, comparison}
use Rattle.requests.specs.Rows.{FirstAbove, AboveInEither, compare_rows}
use Rattle.requests.proofs.Verdicts.{verdict-denies, verdict-grants}

-- the number at a place is above
abbrev Over : List ℕ → ℕ → Type 0
Over list j = most_carriers ≤ carrier_of (get_or list j 0)

above_at : (list : List ℕ) (c : Carrier) → first_above list ≡ some c → FirstAbove list c
unfolding find
above_at [] c h = never-some c h
above_at (w ∷ list) c h =
    by_cases (leb most_carriers (carrier_of w))
    (λ e. (0, record { there = omega arith; here = leb-true _ _ e; earlier = λ j l b. absurd (omega arith) }, some_same (rw e at h)))
    (λ e.
    let r = above_at list c (rw e at h) in
    let f = r.1 in (
      suc r.0,
      record { there = omega (arith, f.there); here = f.here; earlier = earlier w list r.0 e f.earlier },
      r.2,
    ))
  where
    earlier : (w : ℕ) (list : List ℕ) (i : ℕ) → leb most_carriers (carrier_of w) ≡ false → ((j : ℕ) → j < i → Over list j → ⊥)
        → (j : ℕ) → j < suc i → Over (w ∷ list) j → ⊥
    earlier w list i e f zero l o = not-both (le-leb _ _ o) e
    earlier w list i e f (suc j) l o = f j (omega arith) o

at_above : (list : List ℕ) (c : Carrier) (i : ℕ) → FirstOf (length list) (Over list) i → carrier_of (get_or list i 0) ≡ c → first_above list ≡ some c
unfolding find
at_above [] c i f e = absurd (omega (arith, f.there))
at_above (w ∷ list) c zero f e = rw (le-leb _ _ f.here) (ap some e)
at_above (w ∷ list) c (suc i) f e =
    by_cases (leb most_carriers (carrier_of w))
    (λ o. absurd (f.earlier 0 (omega arith) (leb-true _ _ o)))
    (λ o.
    rw o
    (at_above list c i (record { there = omega (arith, f.there); here = f.here; earlier = λ j l b. f.earlier (suc j) (omega arith) b }) e))

above-words : (list : List ℕ) (c : Carrier) → (first_above list ≡ some c) ↔ FirstAbove list c
above-words list c = (above_at list c, λ r. at_above list c r.0 r.1 r.2)

either-words : (first second : List ℕ) (c : Carrier) → (or_else (first_above first) (first_above second) ≡ some c) ↔ AboveInEither first second c
either-words first second c = (
  λ h. either (first_above first) (first_above second) h
      (λ e. inl ((above-words first c).0 e))
      (λ n e. inr (λ d f. never-some d (sym n ∙ (above-words first d).1 f), (above-words second c).0 e)),
  λ f. ⊎_elim
      (λ a. rw ((above-words first c).1 a))
      (λ b. by-option (first_above first)
      (λ e. rw (e, (above-words second c).1 b.1))
      (λ d e. absurd (b.0 d ((above-words first d).0 e))))
      f,
)

module _ (first second : List ℕ) (lent : ℕ) where
  long-words : (ltb most_crossings (length first) or ltb most_crossings (length second) ≡ true) ↔ ((most_crossings < length first) ⊎ (most_crossings < length second))
  long-words = (
    λ h. or_cases _ _ h (λ a. inl (ltb-true _ _ a)) (λ a. inr (ltb-true _ _ a)),
    λ t. ⊎_elim (λ a. or_left _ _ (lt-ltb _ _ a)) (λ a. or_right _ _ (lt-ltb _ _ a)) t,
  )

  compare-reads : Refuses (refusal first second lent) (compare_rows first second lent)
  unfolding refusal
  compare-reads =
      after-it number carried
      (plain-test number carried ((most_crossings < length first) ⊎ (most_crossings < length second)) (ltb most_crossings (length first) or ltb most_crossings (length second))
      size (docket-tells size) refl long-words) (λ _.
      after-it number carried
      (carrying-test number carried (AboveInEither first second) (or_else (first_above first) (first_above second)) start 5 (λ v. docket-tells (start v)) (λ v. refl) (λ v. refl)
      (either-words first second)) (λ _.
      known-test number carried (λ v. (v ≡ most_carriers) × (lent ≡ most_carriers → ⊥)) (not (eqb lent most_carriers)) room most_carriers 8
      (docket-tells (room most_carriers)) refl refl
      (λ h. (refl, eqb-false _ _ (not-true _ h)))
      (λ v w. (ap not (ne_eqb _ _ w.1), w.0))))

  pub compare-denies : (r : Refusal) → (comparison first second lent ≡ denied r) ↔ Given (compare_rows first second lent) (number r) (carried r)
  unfolding comparison distinct elem ◌and◌
  compare-denies r = verdict-denies (equal_leading first second) compare-reads refl r

  pub compare-grants : (comparison first second lent ≡ granted (equal_leading first second)) ↔ NoneOf (compare_rows first second lent)
  unfolding comparison
  compare-grants = verdict-grants (equal_leading first second) compare-reads
