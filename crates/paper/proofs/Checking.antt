-- The check passes exactly if 1 to 6 do, the plan is legal and ends at the goals; else 9 and 10 carry the first and the lowest.
use Prim.Native.Nat.{zero, ℕ, suc, ◌<◌, ◌+◌}
use mathlib.Core.Logic.{◌↔◌}
use mathlib.Core.Path.{◌≡◌, refl, sym, ◌∙◌, ap}
use mathlib.Core.Bool.{true, false, not, Bool}
use mathlib.Core.List.{List, [], ◌∷◌}
use mathlib.Core.Option.{none, some}
use native.Mathlib.Omega.{arith}
use lib.Dec.{eqb, ltb}
use lib.ListN.{length, take}
use lib.Seq.{ext_get_or, take-length}
use borrow.Author.Tests.{not-true, not-false, eqb-true, eqb-false, eq-eqb, ltb-false, ltb-true, ne_eqb}
use Rattle.paper.specs.Basics.{up_to}
use Rattle.paper.specs.Yard.{Carrier, Yard, Placement, Crossing, bay_of, move, after, legal, legal_plan, crossings, named}
use Rattle.paper.specs.Order.{Order}
use Rattle.paper.specs.Docket.{illegal, missed, yard_of, first_illegal, not_home}
use Rattle.paper.specs.Answers.{first_six, check}
use Rattle.paper.proofs.Tests.{by_cases, never-some, none_both, none_from, not-both, by-option}
use Rattle.paper.proofs.Members.{in_count, find_none, none-find, find-exactly}
use Rattle.paper.proofs.Playing.{after-length, plan-head, plan-tail}
use Rattle.paper.proofs.Admitted.{clean_of}

module _ (Y : Yard) where
  pub none-illegal : (p : Placement) (i : ℕ) (xs : List Crossing) → first_illegal Y p i xs ≡ none → legal_plan Y p xs ≡ true
  unfolding first_illegal legal_plan
  none-illegal p i [] h = refl
  none-illegal p i (x ∷ xs) h =
      by_cases (legal Y p x) (λ e. rw e (none-illegal (move p x) (suc i) xs (rw e at h))) (λ e. never-some i (sym (rw e at h)))

  pub illegal-none : (p : Placement) (i : ℕ) (xs : List Crossing) → legal_plan Y p xs ≡ true → first_illegal Y p i xs ≡ none
  unfolding first_illegal
  illegal-none p i [] h = refl
  illegal-none p i (x ∷ xs) h = rw (plan-head Y p x xs h) (illegal-none (move p x) (suc i) xs (plan-tail Y p x xs h))

-- The crossing named d is the first illegal one: those before it are legal, and it is not.
pub record FirstIllegal (Y : Yard) (p : Placement) (xs : List Crossing) (d : ℕ) : Type 0 where
  pub there : d < length xs
  pub before : legal_plan Y p (take d xs) ≡ true
  pub is-illegal : legal Y (after p (take d xs)) (named xs d) ≡ false

module _ (Y : Yard) where
  first-illegal : (p : Placement) (i : ℕ) (xs : List Crossing) (j : ℕ) → first_illegal Y p i xs ≡ some j → (d : ℕ) × (j ≡ i + d) × FirstIllegal Y p xs d
  unfolding first_illegal legal_plan after
  first-illegal p i [] j h = never-some j h
  first-illegal p i (x ∷ xs) j h =
      by_cases (legal Y p x)
      (λ e.
      let r = first-illegal (move p x) (suc i) xs j (rw e at h) in
      let f = r.2 in
      (suc r.0, omega (arith, r.1), record { there = omega (arith, f.there); before = rw e f.before; is-illegal = f.is-illegal }))
      (λ e. (0, (let w = rw e at h in let z : i ≡ j = cc in omega arith), record { there = omega arith; before = refl; is-illegal = e }))

  -- a name below e is legal in its turn where the first e are
  legal-within : (p : Placement) (xs : List Crossing) (d e : ℕ) → d < e → d < length xs → legal_plan Y p (take e xs) ≡ true
      → legal Y (after p (take d xs)) (named xs d) ≡ true
  unfolding after
  legal-within p [] d e l k h = absurd (omega arith)
  legal-within p (x ∷ xs) zero zero l k h = absurd (omega arith)
  legal-within p (x ∷ xs) (suc d) zero l k h = absurd (omega arith)
  legal-within p (x ∷ xs) zero (suc e) l k h = plan-head Y p x (take e xs) h
  legal-within p (x ∷ xs) (suc d) (suc e) l k h =
      legal-within (move p x) xs d e (omega arith) (omega arith) (plan-tail Y p x (take e xs) h)

  firsts-agree : (p : Placement) (xs : List Crossing) (d e : ℕ) → FirstIllegal Y p xs d → FirstIllegal Y p xs e → d ≡ e
  firsts-agree p xs d e f g =
      by_cases (ltb d e)
      (λ l. not-both (legal-within p xs d e (ltb-true d e l) f.there g.before) f.is-illegal)
      (λ l. by_cases (ltb e d)
      (λ m. not-both (legal-within p xs e d (ltb-true e d m) g.there f.before) g.is-illegal)
      (λ m. omega (arith, ltb-false d e l, ltb-false e d m)))

  -- What `first_illegal` gives is exactly the first illegal crossing's name.
  pub illegal-exactly : (p : Placement) (xs : List Crossing) (d : ℕ) → (first_illegal Y p 0 xs ≡ some d) ↔ FirstIllegal Y p xs d
  illegal-exactly p xs d = (
    λ h. let r = first-illegal p 0 xs d h in let e : r.0 ≡ d = omega (arith, r.1) in rw e at r.2,
    λ f. by-option (first_illegal Y p 0 xs)
        (λ h.
        let whole : legal_plan Y p (take (length xs) xs) ≡ true = rw (take-length xs) (none-illegal Y p 0 xs h) in
        not-both (legal-within p xs d (length xs) f.there f.there whole) f.is-illegal)
        (λ j h.
        let r = first-illegal p 0 xs j h in
        let e : r.0 ≡ d = firsts-agree p xs r.0 d r.2 f in
        let z : j ≡ d = omega (arith, r.1) in
        rw z at h),
  )

-- The lowest carrier that isn't home.
pub record LowestMissed (goals p : Placement) (c : Carrier) : Type 0 where
  pub there : c < length goals
  pub away : bay_of p c ≡ bay_of goals c → ⊥
  pub lower_home : (b : Carrier) → b < c → bay_of p b ≡ bay_of goals b

pub missed-exactly : (goals p : Placement) (c : Carrier) → (not_home goals p ≡ some c) ↔ LowestMissed goals p c
unfolding not_home
missed-exactly goals p c =
    let q : Carrier → Bool = λ b. not (eqb (bay_of p b) (bay_of goals b)) in
    let f = find-exactly q (length goals) c in (
      λ h.
          let k = f.0 h in
          record { there = k.0; away = eqb-false _ _ (not-true _ k.1); lower_home = λ b l. eqb-true _ _ (not-false _ (k.2 b l)) },
      λ m. f.1 (m.there, ap not (ne_eqb _ _ m.away), λ b l. ap not (eq-eqb _ _ (m.lower_home b l))),
    )

pub none-missed : (goals p : Placement) → length p ≡ length goals → not_home goals p ≡ none → p ≡ goals
unfolding not_home
none-missed goals p len h =
    ext_get_or 0 p goals len
    (λ c k. eqb-true _ _ (not-false _ (find_none (λ b. not (eqb (bay_of p b) (bay_of goals b))) (up_to (length goals)) c h (in_count 0 (length goals) c (omega arith) (omega arith)))))

pub missed-none : (goals p : Placement) → p ≡ goals → not_home goals p ≡ none
unfolding not_home
missed-none goals p h = none-find _ (up_to (length goals)) (λ c i. ap not (eq-eqb _ _ (ap (λ q. bay_of q c) h)))

-- The check passes exactly if 1 to 6 do, the plan is legal from the starts, and it ends at the goals.
pub record Passed (o : Order) (plan : List ℕ) : Type 0 where
  pub sound : first_six o (length plan) ≡ none
  pub lawful : legal_plan (yard_of o) o.starts (crossings plan) ≡ true
  pub home : after o.starts (crossings plan) ≡ o.goals

module _ (o : Order) (plan : List ℕ) where
  pub check-passed : check o plan ≡ none → Passed o plan
  unfolding check
  check-passed h =
      let b = none_both (first_six o (length plan)) _ h in
      let c = none_both _ _ b.1 in
      record {
        sound = b.0;
        lawful = none-illegal (yard_of o) o.starts 0 (crossings plan) (none_from illegal _ c.0);
        home = none-missed o.goals (after o.starts (crossings plan))
            (after-length o.starts (crossings plan) ∙ (clean_of o (length plan) b.0).sizes.same_length)
            (none_from missed _ c.1);
      }

  pub passed-check : Passed o plan → check o plan ≡ none
  unfolding check
  passed-check p =
      rw (p.sound, illegal-none (yard_of o) o.starts 0 (crossings plan) p.lawful)
      (rw (missed-none o.goals (after o.starts (crossings plan)) p.home))
