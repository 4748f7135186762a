-- 11 to 13 in words: marks in order, names in the plan, and the lowest undone name that a crossing depends on.
use mathlib.Core.Path.{◌≡◌, refl, ap}
use mathlib.Core.Bool.{Bool, true, not}
use mathlib.Core.List.{List, [], ◌∷◌}
use mathlib.Core.Logic.{◌↔◌}
use mathlib.Core.Option.{some}
use Prim.Native.Nat.{ℕ, ◌<◌}
use native.Mathlib.Omega.{arith}
use lib.Dec.{eqb, leb}
use lib.ListN.{length}
use borrow.Author.Tests.{not-true, leb-true, le-leb, eqb-true, eqb-false, eq-eqb, ne_eqb}
use Rattle.paper.specs.Basics.{◌and◌, ◌or◌, up_to}
use Rattle.paper.specs.Yard.{Crossing, named}
use Rattle.paper.specs.Dependence.{depend, is_done, undone_before, out_of_order}
use Rattle.paper.specs.Docket.{number, carried, mismarked, unknown, early, bad_marks, no_11, no_12, no_13}
use Rattle.paper.proofs.Tests.{and_left, and_right, and_both, or_left, or_right, or_cases, or-neither, or-none}
use Rattle.paper.proofs.Members.{any_some, any_of, in_count, count-high}
use Rattle.paper.proofs.Determined.{docket-tells}
use Rattle.exactly.specs.First.{plain, carrying}
use Rattle.exactly.specs.Words.{Depends, same_carrier, from_from, from_to, to_from, to_to, mark, BadMarks, other_count, no_mark, too_soon, NotInPlan, LowestUndone}
use Rattle.exactly.proofs.First.{plain-test, carrying-test}
use Rattle.exactly.proofs.Lists.{any-exactly, lowest-place}
use Rattle.exactly.proofs.Six.{Refuses}

pub depends-words : (x y : Crossing) → (depend x y ≡ true) ↔ Depends x y
unfolding depend
depends-words x y = (to, from)
  where
    to : depend x y ≡ true → Depends x y
    to h =
        or_cases _ _ h
        (λ h. or_cases _ _ h
        (λ h. or_cases _ _ h
        (λ h. or_cases _ _ h (λ a. same_carrier (eqb-true _ _ a)) (λ a. from_from (eqb-true _ _ a)))
        (λ a. from_to (eqb-true _ _ a)))
        (λ a. to_from (eqb-true _ _ a)))
        (λ a. to_to (eqb-true _ _ a))

    from : Depends x y → depend x y ≡ true
    from (same_carrier e) = or_left _ _ (or_left _ _ (or_left _ _ (or_left _ _ (eq-eqb _ _ e))))
    from (from_from e) = or_left _ _ (or_left _ _ (or_left _ _ (or_right _ _ (eq-eqb _ _ e))))
    from (from_to e) = or_left _ _ (or_left _ _ (or_right _ _ (eq-eqb _ _ e)))
    from (to_from e) = or_left _ _ (or_right _ _ (eq-eqb _ _ e))
    from (to_to e) = or_right _ _ (eq-eqb _ _ e)

module _ (xs : List Crossing) (marks : List ℕ) where
  -- the crossing i depends on e, and e is undone
  abbrev waits : ℕ → ℕ → Bool
  waits i e = depend (named xs i) (named xs e) and not (is_done marks e)

  waits-words : (i e : ℕ) → (waits i e ≡ true) ↔ (Depends (named xs i) (named xs e) × (mark marks e ≡ 1 → ⊥))
  waits-words i e = (
    λ h. ((depends-words _ _).0 (and_left _ _ h), eqb-false _ _ (not-true _ (and_right _ _ h))),
    λ r. and_both _ _ ((depends-words _ _).1 r.0) (ap not (ne_eqb _ _ r.1)),
  )

  -- ## 11

  abbrev is_no_mark : ℕ → Bool
  is_no_mark m = not (eqb m 0 or eqb m 1)

  marks-words : (bad_marks xs marks ≡ true) ↔ BadMarks xs marks
  unfolding bad_marks out_of_order
  marks-words = (to, from)
    where
      to : bad_marks xs marks ≡ true → BadMarks xs marks
      to h =
          or_cases _ _ h
          (λ h. or_cases _ _ h
          (λ a. other_count (eqb-false _ _ (not-true _ a)))
          (λ a.
          let r = (any-exactly is_no_mark 0 marks).0 a in
          let o = or-none _ _ (not-true _ r.2) in
          no_mark r.0 r.1 (eqb-false _ _ o.0) (eqb-false _ _ o.1)))
          (λ a.
          let r = any_some _ (up_to (length xs)) a in
          let i = r.0 in
          let s = any_some _ (up_to i) (and_right _ _ r.2) in
          let l : s.0 < i = let z = count-high 0 i s.0 s.1 in omega arith in
          let k : i < length xs = let z = count-high 0 (length xs) i r.1 in omega arith in
          let w = (waits-words i s.0).0 s.2 in
          too_soon s.0 i l k w.0 (eqb-true _ _ (and_left _ _ r.2)) w.1)

      from : BadMarks xs marks → bad_marks xs marks ≡ true
      from (other_count d) = or_left _ _ (or_left _ _ (ap not (ne_eqb _ _ d)))
      from (no_mark i l z o) = or_left _ _ (or_right _ _ ((any-exactly is_no_mark 0 marks).1 (i, l, ap not (or-neither _ _ (ne_eqb _ _ z) (ne_eqb _ _ o)))))
      from (too_soon e i l k d q u) =
          or_right _ _
          (any_of _ (up_to (length xs)) i (in_count 0 (length xs) i (omega arith) (omega arith))
          (and_both _ _ (eq-eqb _ _ q) (any_of (waits i) (up_to i) e (in_count 0 i e (omega arith) (omega arith)) ((waits-words i e).1 (d, u)))))

  pub reads-11 : Refuses (no_11 xs marks) (plain 11 (BadMarks xs marks) ∷ [])
  reads-11 = plain-test number carried (BadMarks xs marks) (bad_marks xs marks) mismarked (docket-tells mismarked) refl marks-words

  -- ## 12 and 13

  module _ (name : ℕ) where
    pub reads-12 : Refuses (no_12 xs name) (plain 12 (NotInPlan xs name) ∷ [])
    reads-12 = plain-test number carried (NotInPlan xs name) (leb (length xs) name) unknown (docket-tells unknown) refl (leb-true (length xs) name, le-leb (length xs) name)

    undone-words : (e : ℕ) → (undone_before xs marks name ≡ some e) ↔ LowestUndone xs marks name e
    unfolding undone_before
    undone-words = lowest-place (waits name) (λ i. Depends (named xs name) (named xs i) × (mark marks i ≡ 1 → ⊥)) (waits-words name) name

    pub reads-13 : Refuses (no_13 xs marks name) (carrying 13 (LowestUndone xs marks name) ∷ [])
    reads-13 = carrying-test number carried (LowestUndone xs marks name) (undone_before xs marks name) early 13 (λ v. docket-tells (early v)) (λ v. refl) (λ v. refl) undone-words
