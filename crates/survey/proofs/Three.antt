-- Refusals 1 to 3 alone are what a yard with no carriers is tested for; and an end above any bay may be read as 65,535, which is
-- above any bay too: the same rail is the first bad one.
use mathlib.Core.Path.{◌≡◌, refl, sym, ◌∙◌, ap}
use mathlib.Core.Bool.{true, false}
use mathlib.Core.List.{List, [], ◌∷◌, ◌++◌, map}
use mathlib.Core.Option.{none, some}
use Prim.Native.Nat.{ℕ, suc, ◌*◌, ◌%◌, ◌≤◌, ◌<◌, min}
use native.Mathlib.Omega.{arith}
use lib.Dec.{leb, ltb}
use lib.ListN.{length, length-map}
use borrow.Author.Tests.{le-leb, lt-leb, leb-true, leb-false, le-ltb, eqb-false}
use Rattle.paper.specs.Basics.{first_bad}
use Rattle.paper.specs.Limits.{most_rails}
use Rattle.paper.specs.Yard.{Bay, Rail}
use Rattle.paper.specs.Order.{order}
use Rattle.paper.specs.Docket.{size, rails_of, bad_size, bad_rail, no_2, no_3}
use Rattle.paper.specs.Answers.{first_six}
use Rattle.paper.proofs.Tests.{by_cases, by-option, or-none, or_left, or_right, never-some}
use Rattle.paper.proofs.Admitted.{sizes-of}
use Rattle.survey.specs.Survey.{first_three}
use Rattle.survey.specs.Narrow.{narrow}
use Rattle.survey.proofs.Written.{Below, passes}

-- ## No carriers
pub three-are-six : (n : ℕ) (ends : List Bay) → first_six (order n ends [] []) 0 ≡ first_three n ends
unfolding first_six first_three first_bad
three-are-six n ends =
    let o = order n ends [] [] in
    by_cases (bad_size o 0) (λ e. rw e)
    (λ e.
    let s = sizes-of o 0 e in
    let enough : ltb n 2 ≡ false = le-ltb n 2 s.enough-bays in
    rw (e, enough) (by-option (no_2 o) (λ f. rw f (by-option (no_3 o) (λ g. rw g) (λ r g. rw g))) (λ r f. rw f)))

-- ## Ends of 16 bits
low : (n x : ℕ) → n ≤ 65535 → leb n x ≡ false → narrow x ≡ x
unfolding narrow
low n x h e = let l = leb-false n x e in omega arith

high : (n x : ℕ) → n ≤ 65535 → leb n x ≡ true → leb n (narrow x) ≡ true
unfolding narrow
high n x h e = let l = leb-true n x e in le-leb n (min x 65535) (omega arith)

module _ (n : ℕ) (small : n ≤ 65535) where
  same-rail : (before : List Rail) (a b : Bay) → bad_rail n before (a, b) ≡ bad_rail n before (narrow a, narrow b)
  unfolding bad_rail
  same-rail before a b =
      by_cases (leb n a)
      (λ e. or_left _ _ (or_left _ _ (or_left _ _ e)) ∙ sym (or_left _ _ (or_left _ _ (or_left _ _ (high n a small e)))))
      (λ e. by_cases (leb n b)
      (λ f. or_left _ _ (or_left _ _ (or_right _ _ f)) ∙ sym (or_left _ _ (or_left _ _ (or_right _ _ (high n b small f)))))
      (λ f. rw (low n a small e, low n b small f)))

  good-rail : (before : List Rail) (a b : Bay) → bad_rail n before (a, b) ≡ false → (narrow a ≡ a) × (narrow b ≡ b)
  unfolding bad_rail
  good-rail before a b e = let q = or-none _ _ (or-none _ _ (or-none _ _ e).0).0 in (low n a small q.0, low n b small q.1)

  same_first : (i : ℕ) (before : List Rail) (ends : List Bay) → first_bad (bad_rail n) i before (rails_of ends) ≡ first_bad (bad_rail n) i before (rails_of (map narrow ends))
  unfolding first_bad rails_of
  same_first i before [] = refl
  same_first i before (a ∷ []) = refl
  same_first i before (a ∷ b ∷ ends) =
      by_cases (bad_rail n before (a, b))
      (λ e. rw (e, sym (same-rail before a b) ∙ e))
      (λ e.
      let g = good-rail before a b e in
      rw (g.0, g.1, e) (same_first (suc i) (before ++ ((a, b) ∷ [])) ends))

  same_ends : (i : ℕ) (before : List Rail) (ends : List Bay) → first_bad (bad_rail n) i before (rails_of ends) ≡ none → rails_of (map narrow ends) ≡ rails_of ends
  unfolding first_bad rails_of
  same_ends i before [] h = refl
  same_ends i before (a ∷ []) h = refl
  same_ends i before (a ∷ b ∷ ends) h =
      by_cases (bad_rail n before (a, b))
      (λ e. never-some i (sym (rw e at h)))
      (λ e.
      let g = good-rail before a b e in
      rw (g.0, g.1) (ap (λ rs. (a, b) ∷ rs) (same_ends (suc i) (before ++ ((a, b) ∷ [])) ends (rw e at h))))

-- 1 to 3 are the same for the ends in 16 bits.
pub narrow-three : (n : ℕ) (ends : List Bay) → first_three n (map narrow ends) ≡ first_three n ends
unfolding first_three bad_size
narrow-three n ends =
    let lengths : bad_size (order n (map narrow ends) [] []) 0 ≡ bad_size (order n ends [] []) 0 = sizes (length-map ends narrow) in
    by_cases (bad_size (order n ends [] []) 0)
    (λ e. rw (lengths, e))
    (λ e.
    let s = sizes-of (order n ends [] []) 0 e in
    let small : n ≤ 65535 = omega (arith, s.few_bays) in
    rw (lengths, e, ← same_first n small 0 [] ends)
    (by-option (first_bad (bad_rail n) 0 [] (rails_of ends))
    (λ f. rw (f, same_ends n small 0 [] ends f))
    (λ i f. rw f)))
  where
    sizes : length (map narrow ends) ≡ length ends → bad_size (order n (map narrow ends) [] []) 0 ≡ bad_size (order n ends [] []) 0
    sizes h = rw h

-- the ends of a yard that passes 1 to 3 fit in 16 bits
pub narrow-same : (n : ℕ) (ends : List Bay) → first_three n ends ≡ none → map narrow ends ≡ ends
narrow-same n ends h = let p = passes n ends h in each ends p.even p.below
  where
    fits : (x : ℕ) → x < n → narrow x ≡ x
    fits x l = low n x (omega (arith, (passes n ends h).few_bays)) (lt-leb n x l)

    each : (es : List Bay) → length es % 2 ≡ 0 → Below n es → map narrow es ≡ es
    each [] e b = refl
    each (x ∷ []) e b = absurd (omega arith)
    each (x ∷ y ∷ es) e b = rw (fits x b.0, fits y b.1.0, each es (omega arith) b.1.1)

-- more ends than the most rails have are 1
pub long-size : (n : ℕ) (ends : List Bay) → 2 * most_rails < length ends → first_three n ends ≡ some size
unfolding first_three
long-size n ends h =
    by_cases (bad_size (order n ends [] []) 0) (λ e. rw e)
    (λ e. let s = sizes-of (order n ends [] []) 0 e in absurd (omega (arith, s.few-rails, eqb-false (length ends % 2) 1 s.even-ends)))
