-- "The first bad one": what `first_bad` finds is bad in view of those before it, and none of those is.
use mathlib.Core.Path.{◌≡◌, sym, ◌∙◌}
use mathlib.Core.Bool.{Bool, true, false}
use mathlib.Core.List.{List, [], ◌∷◌, ◌++◌, append-nil, append_assoc}
use mathlib.Core.Logic.{◌↔◌}
use mathlib.Core.Option.{none, some}
use Prim.Native.Nat.{ℕ, zero, suc, ◌<◌, ◌+◌}
use native.Mathlib.Omega.{arith}
use lib.Dec.{ltb}
use lib.ListN.{length, get_or, take}
use borrow.Author.Tests.{ltb-true, ltb-false}
use Rattle.paper.specs.Basics.{first_bad}
use Rattle.paper.proofs.Tests.{by_cases, by-option, never-some, not-both}

module _ {A : Type 0} (bad : List A → A → Bool) (pad : A) where
  -- whether the member at place d is bad in view of those before it
  abbrev bad_at : List A → List A → ℕ → Bool
  bad_at before xs d = bad (before ++ take d xs) (get_or xs d pad)

  pub record FirstBad (before xs : List A) (d : ℕ) : Type 0 where
    pub there : d < length xs
    pub is-bad : bad (before ++ take d xs) (get_or xs d pad) ≡ true
    pub none_before : (e : ℕ) → e < d → bad (before ++ take e xs) (get_or xs e pad) ≡ false

  at_head : (before : List A) (x : A) (xs : List A) → bad_at before (x ∷ xs) 0 ≡ bad before x
  at_head before x xs = rw append-nil

  at_tail : (before : List A) (x : A) (xs : List A) (d : ℕ) → bad_at before (x ∷ xs) (suc d) ≡ bad_at (before ++ (x ∷ [])) xs d
  at_tail before x xs d = rw (append_assoc before (x ∷ []) (take d xs))

  pub none-bad : (i : ℕ) (before xs : List A) → first_bad bad i before xs ≡ none
      → (e : ℕ) → e < length xs → bad (before ++ take e xs) (get_or xs e pad) ≡ false
  unfolding first_bad
  none-bad i before [] h e l = absurd (omega arith)
  none-bad i before (x ∷ xs) h e l =
      by_cases (bad before x)
      (λ b. never-some i (sym (rw b at h)))
      (λ b. each e l (none-bad (suc i) (before ++ (x ∷ [])) xs (rw b at h)) b)
    where
      each : (e : ℕ) → e < suc (length xs) → ((d : ℕ) → d < length xs → bad_at (before ++ (x ∷ [])) xs d ≡ false) → bad before x ≡ false
          → bad_at before (x ∷ xs) e ≡ false
      each zero l f b = at_head before x xs ∙ b
      each (suc d) l f b = at_tail before x xs d ∙ f d (omega arith)

  pub first-bad : (i : ℕ) (before xs : List A) (j : ℕ) → first_bad bad i before xs ≡ some j → (d : ℕ) × (j ≡ i + d) × FirstBad before xs d
  unfolding first_bad
  first-bad i before [] j h = never-some j h
  first-bad i before (x ∷ xs) j h =
      by_cases (bad before x)
      (λ b. (
        0,
        (let w = rw b at h in let z : i ≡ j = cc in omega arith),
        record { there = omega arith; is-bad = at_head before x xs ∙ b; none_before = λ e l. absurd (omega arith) },
      ))
      (λ b.
      let r = first-bad (suc i) (before ++ (x ∷ [])) xs j (rw b at h) in
      let f = r.2 in (
        suc r.0,
        omega (arith, r.1),
        record {
          there = omega (arith, f.there);
          is-bad = at_tail before x xs r.0 ∙ f.is-bad;
          none_before = earlier r.0 b f.none_before;
        },
      ))
    where
      earlier : (d : ℕ) → bad before x ≡ false → ((e : ℕ) → e < d → bad_at (before ++ (x ∷ [])) xs e ≡ false)
          → (e : ℕ) → e < suc d → bad_at before (x ∷ xs) e ≡ false
      earlier d b f zero l = at_head before x xs ∙ b
      earlier d b f (suc e) l = at_tail before x xs e ∙ f e (omega arith)

  -- two firsts are one
  firsts-agree : (before xs : List A) (d e : ℕ) → FirstBad before xs d → FirstBad before xs e → d ≡ e
  firsts-agree before xs d e f g =
      by_cases (ltb d e)
      (λ l. not-both f.is-bad (g.none_before d (ltb-true d e l)))
      (λ l. by_cases (ltb e d)
      (λ m. not-both g.is-bad (f.none_before e (ltb-true e d m)))
      (λ m. omega (arith, ltb-false d e l, ltb-false e d m)))

  -- The place given is exactly the first bad one's.
  pub first-bad-exactly : (xs : List A) (d : ℕ) → (first_bad bad 0 [] xs ≡ some d) ↔ FirstBad [] xs d
  first-bad-exactly xs d = (
    λ h. let r = first-bad 0 [] xs d h in let e : r.0 ≡ d = omega (arith, r.1) in rw e at r.2,
    λ f. by-option (first_bad bad 0 [] xs)
        (λ h. not-both f.is-bad (none-bad 0 [] xs h d f.there))
        (λ j h.
        let r = first-bad 0 [] xs j h in
        let e : r.0 ≡ d = firsts-agree [] xs r.0 d r.2 f in
        let z : j ≡ d = omega (arith, r.1) in
        rw z at h),
  )
