-- 1 to 6 in words, and in their order.
use mathlib.Core.Path.{◌≡◌, refl, sym, ◌∙◌, ap}
use mathlib.Core.Bool.{true, not}
use mathlib.Core.List.{List, [], ◌∷◌}
use mathlib.Core.Logic.{◌↔◌, inl, inr, ⊎_elim}
use mathlib.Core.Option.{Option, none, some}
use Prim.Native.Nat.{ℕ, zero, suc, ◌<◌, ◌+◌}
use native.Mathlib.Omega.{arith}
use lib.Dec.{eqb, ltb}
use lib.ListN.{length, get_or, take}
use lib.Seq.{length-take-le, get_or-take}
use borrow.Author.Tests.{not-true, ltb-true, lt-ltb, leb-true, le-leb, eqb-true, eqb-false, eq-eqb, ne_eqb}
use Rattle.paper.specs.Basics.{◌and◌, ◌or◌, elem, first_bad}
use Rattle.paper.specs.Yard.{Bay, Carrier, Rail, Yard, Placement, kept_empty, joined}
use Rattle.paper.specs.Order.{Order}
use Rattle.paper.specs.Docket.{Refusal, size, rail, apart, crowd, start, goal, number, carried, rails_of, yard_of, bad_size, bad_rail, bad_place, apart_bay, no_1, no_2, no_3, no_4, no_5, no_6}
use Rattle.paper.specs.Answers.{first_six}
use Rattle.paper.proofs.Tests.{and_left, and_right, and_both, or_left, or_right, or_cases, none-when, none_from}
use Rattle.paper.proofs.Members.{In-head, In-tail, In-cases, In-nil}
use Rattle.paper.proofs.Determined.{docket-tells}
use Rattle.paper.proofs.Admitted.{sizes-of, sound-of, apart-exactly}
use Rattle.exactly.specs.First.{Row, plain, carrying}
use Rattle.exactly.specs.Words.{WrongSize, few_bays, many_bays, many_rails, odd_ends, other_length, long_plan, rail_at, SamePair, BadRail, first_end, second_end, equal_ends, given_before, FirstBadRail, LowestApart, Crowded, BadPlace, no_bay, used, FirstBadPlace, Railed}
use Rattle.exactly.specs.Rows.{six}
use Rattle.exactly.proofs.First.{Reads, after-it, plain-test, carrying-test}
use Rattle.exactly.proofs.Lists.{any-exactly, first-place}

-- tests that answer refusals, by rows
abbrev pub Refuses : Option Refusal → List Row → Type 0
Refuses t rows = Reads number carried t rows

-- ## 1

module _ (o : Order) (lent : ℕ) where
  pub size-words : (bad_size o lent ≡ true) ↔ WrongSize o lent
  unfolding bad_size
  size-words = (to, from)
    where
      to : bad_size o lent ≡ true → WrongSize o lent
      to h =
          or_cases _ _ h
          (λ h. or_cases _ _ h
          (λ h. or_cases _ _ h
          (λ h. or_cases _ _ h
          (λ h. or_cases _ _ h
          (λ a. few_bays (ltb-true _ _ a))
          (λ a. many_bays (ltb-true _ _ a)))
          (λ a. many_rails (ltb-true _ _ a)))
          (λ a. odd_ends (eqb-true _ _ a)))
          (λ a. other_length (eqb-false _ _ (not-true _ a))))
          (λ a. long_plan (ltb-true _ _ a))

      from : WrongSize o lent → bad_size o lent ≡ true
      from (few_bays l) = or_left _ _ (or_left _ _ (or_left _ _ (or_left _ _ (or_left _ _ (lt-ltb _ _ l)))))
      from (many_bays l) = or_left _ _ (or_left _ _ (or_left _ _ (or_left _ _ (or_right _ _ (lt-ltb _ _ l)))))
      from (many_rails l) = or_left _ _ (or_left _ _ (or_left _ _ (or_right _ _ (lt-ltb _ _ l))))
      from (odd_ends e) = or_left _ _ (or_left _ _ (or_right _ _ (eq-eqb _ _ e)))
      from (other_length d) = or_left _ _ (or_right _ _ (ap not (ne_eqb _ _ d)))
      from (long_plan l) = or_right _ _ (lt-ltb _ _ l)

-- ## 2

-- "a rail joins" them: one of the rails is that pair, in either direction
pub joined_words : (Y : Yard) (a b : Bay) → (joined Y a b ≡ true) ↔ Railed Y a b
unfolding joined
joined_words Y a b =
    let e = any-exactly (λ r. (eqb a r.0 and eqb b r.1) or (eqb a r.1 and eqb b r.0)) (0, 0) Y.rails in (
      λ h.
          let r = e.0 h in (
            r.0,
            r.1,
            or_cases _ _ r.2
                (λ k. inl (eqb-true _ _ (and_left _ _ k), eqb-true _ _ (and_right _ _ k)))
                (λ k. inr (eqb-true _ _ (and_left _ _ k), eqb-true _ _ (and_right _ _ k))),
          ),
      λ r. e.1 (
        r.0,
        r.1,
        ⊎_elim
            (λ k. or_left _ _ (and_both _ _ (eq-eqb _ _ k.0) (eq-eqb _ _ k.1)))
            (λ k. or_right _ _ (and_both _ _ (eq-eqb _ _ k.0) (eq-eqb _ _ k.1)))
            r.2,
      ),
    )

module _ (n : ℕ) (rails : List Rail) (i : ℕ) (there : i < length rails) where
  abbrev before : Yard
  before = record { bays = n; rails = take i rails }

  -- a rail among those before is a rail given before
  before-words : Railed before (rail_at rails i).0 (rail_at rails i).1 ↔ ((j : ℕ) × (j < i) × SamePair (rail_at rails i) (rail_at rails j))
  before-words =
      let long : length (take i rails) ≡ i = length-take-le i rails (omega arith) in (
        λ r. let l : r.0 < i = rw long at r.1 in (r.0, l, rw (get_or-take i rails r.0 (0, 0) l) at r.2),
        λ r. (r.0, rw long r.1, rw (get_or-take i rails r.0 (0, 0) r.1) r.2),
      )

  pub rail-words : (bad_rail n (take i rails) (rail_at rails i) ≡ true) ↔ BadRail n rails i
  unfolding bad_rail
  rail-words = (to, from)
    where
      to : bad_rail n (take i rails) (rail_at rails i) ≡ true → BadRail n rails i
      to h =
          or_cases _ _ h
          (λ h. or_cases _ _ h
          (λ h. or_cases _ _ h (λ a. first_end (leb-true _ _ a)) (λ a. second_end (leb-true _ _ a)))
          (λ a. equal_ends (eqb-true _ _ a)))
          (λ a.
          let r = before-words.0 ((joined_words before (rail_at rails i).0 (rail_at rails i).1).0 a) in
          given_before r.0 r.1 r.2)

      from : BadRail n rails i → bad_rail n (take i rails) (rail_at rails i) ≡ true
      from (first_end l) = or_left _ _ (or_left _ _ (or_left _ _ (le-leb _ _ l)))
      from (second_end l) = or_left _ _ (or_left _ _ (or_right _ _ (le-leb _ _ l)))
      from (equal_ends e) = or_left _ _ (or_right _ _ (eq-eqb _ _ e))
      from (given_before j l e) = or_right _ _ ((joined_words before (rail_at rails i).0 (rail_at rails i).1).1 (before-words.1 (j, l, e)))

pub first-rail-words : (n : ℕ) (ends : List Bay) (i : ℕ) → (first_bad (bad_rail n) 0 [] (rails_of ends) ≡ some i) ↔ FirstBadRail n ends i
first-rail-words n ends = first-place (bad_rail n) (0, 0) (rails_of ends) (BadRail n (rails_of ends)) (rail-words n (rails_of ends))

-- ## 5 and 6

-- a member is at some place
pub elem-words : (b : Bay) (p : List Bay) → (elem b p ≡ true) ↔ ((d : ℕ) × (d < length p) × (get_or p d 0 ≡ b))
elem-words b p = (to p, λ r. from p r.0 r.1 r.2)
  where
    to : (p : List Bay) → elem b p ≡ true → (d : ℕ) × (d < length p) × (get_or p d 0 ≡ b)
    to [] h = In-nil b h
    to (x ∷ p) h =
        In-cases b x p h (λ e. (0, omega arith, sym e)) (λ k. let r = to p k in (suc r.0, omega (arith, r.1), r.2))

    from : (p : List Bay) (d : ℕ) → d < length p → get_or p d 0 ≡ b → elem b p ≡ true
    from [] d l e = absurd (omega arith)
    from (x ∷ p) zero l e = rw e (In-head b p)
    from (x ∷ p) (suc d) l e = In-tail b x p (from p d (omega arith) e)

module _ (n : ℕ) (p : Placement) (c : Carrier) (there : c < length p) where
  pub place-words : (bad_place n (take c p) (get_or p c 0) ≡ true) ↔ BadPlace n p c
  unfolding bad_place
  place-words = (to, from)
    where
      long : length (take c p) ≡ c
      long = length-take-le c p (omega arith)

      to : bad_place n (take c p) (get_or p c 0) ≡ true → BadPlace n p c
      to h =
          or_cases _ _ h
          (λ a. no_bay (leb-true _ _ a))
          (λ a.
          let r = (elem-words (get_or p c 0) (take c p)).0 a in
          let l : r.0 < c = rw long at r.1 in
          used r.0 l (sym (get_or-take c p r.0 0 l) ∙ r.2))

      from : BadPlace n p c → bad_place n (take c p) (get_or p c 0) ≡ true
      from (no_bay l) = or_left _ _ (le-leb _ _ l)
      from (used d l e) = or_right _ _ ((elem-words (get_or p c 0) (take c p)).1 (d, rw long l, get_or-take c p d 0 l ∙ e))

pub first-place-words : (n : ℕ) (p : Placement) (c : Carrier) → (first_bad (bad_place n) 0 [] p ≡ some c) ↔ FirstBadPlace n p c
first-place-words n p = first-place (bad_place n) 0 p (BadPlace n p) (place-words n p)

-- ## In their order

module _ (o : Order) where
  -- past 1 and 2
  pub apart_words : 0 < o.bays → first_bad (bad_rail o.bays) 0 [] (rails_of o.ends) ≡ none → (b : Bay) → (apart_bay (yard_of o) ≡ some b) ↔ LowestApart o b
  apart_words l h b =
      let e = apart-exactly (yard_of o) (sound-of o h) l b in (
        λ k. let r = e.0 k in record { there = r.0; unreached = r.1; lower_reached = r.2 },
        λ r. e.1 (r.there, r.unreached, r.lower_reached),
      )

  module _ (lent : ℕ) where
    pub reads-1 : Refuses (no_1 o lent) (plain 1 (WrongSize o lent) ∷ [])
    reads-1 = plain-test number carried (WrongSize o lent) (bad_size o lent) size (docket-tells size) refl (size-words o lent)

    pub some_bay : no_1 o lent ≡ none → 0 < o.bays
    some_bay h = let z = (sizes-of o lent (none-when (bad_size o lent) size h)).enough-bays in omega arith

  pub reads-2 : Refuses (no_2 o) (carrying 2 (FirstBadRail o.bays o.ends) ∷ [])
  reads-2 = carrying-test number carried (FirstBadRail o.bays o.ends) (first_bad (bad_rail o.bays) 0 [] (rails_of o.ends)) rail 2 (λ v. docket-tells (rail v)) (λ v. refl) (λ v. refl) (first-rail-words o.bays o.ends)

  pub reads-3 : 0 < o.bays → no_2 o ≡ none → Refuses (no_3 o) (carrying 3 (LowestApart o) ∷ [])
  reads-3 l h =
      carrying-test number carried (LowestApart o) (apart_bay (yard_of o)) apart 3 (λ v. docket-tells (apart v)) (λ v. refl) (λ v. refl)
      (apart_words l (none_from rail (first_bad (bad_rail o.bays) 0 [] (rails_of o.ends)) h))

  pub reads-4 : Refuses (no_4 o) (plain 4 (Crowded o.bays o.starts) ∷ [])
  reads-4 = plain-test number carried (Crowded o.bays o.starts) (ltb o.bays (length o.starts + kept_empty)) crowd (docket-tells crowd) refl (ltb-true o.bays (length o.starts + kept_empty), lt-ltb o.bays (length o.starts + kept_empty))

  pub reads-5 : Refuses (no_5 o) (carrying 5 (FirstBadPlace o.bays o.starts) ∷ [])
  reads-5 = carrying-test number carried (FirstBadPlace o.bays o.starts) (first_bad (bad_place o.bays) 0 [] o.starts) start 5 (λ v. docket-tells (start v)) (λ v. refl) (λ v. refl) (first-place-words o.bays o.starts)

  pub reads-6 : Refuses (no_6 o) (carrying 6 (FirstBadPlace o.bays o.goals) ∷ [])
  reads-6 = carrying-test number carried (FirstBadPlace o.bays o.goals) (first_bad (bad_place o.bays) 0 [] o.goals) goal 6 (λ v. docket-tells (goal v)) (λ v. refl) (λ v. refl) (first-place-words o.bays o.goals)

  pub six-reads : (lent : ℕ) → Refuses (first_six o lent) (six o lent)
  unfolding first_six
  six-reads lent =
      after-it number carried (reads-1 lent) (λ a.
      after-it number carried reads-2 (λ b.
      after-it number carried (reads-3 (some_bay lent a) b) (λ _.
      after-it number carried reads-4 (λ _.
      after-it number carried reads-5 (λ _. reads-6)))))
