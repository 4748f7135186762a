-- Planning answers by 1 to 8 in their order, and each refusal exactly by its row.
use mathlib.Core.Path.{◌≡◌, refl, sym, ◌∙◌, ap}
use mathlib.Core.Bool.{true}
use mathlib.Core.List.{List, [], ◌∷◌}
use mathlib.Core.Logic.{◌↔◌}
use mathlib.Core.Option.{Option, none, some}
use Prim.Native.Nat.{ℕ}
use lib.ListN.{length}
use Rattle.paper.specs.Basics.{if_some◌then◌else◌, or_else, elem, ◌and◌}
use Rattle.paper.specs.Yard.{Crossing}
use Rattle.paper.specs.Order.{Order}
use Rattle.paper.specs.Procedure.{Made, Outcome, planned, stuck, procedure}
use Rattle.paper.specs.Docket.{Refusal, number, carried, yard_of, no_7, no_8}
use Rattle.paper.specs.Answers.{accepted, refused, crossings_of, within, unless, plan, first_six}
use Rattle.paper.proofs.Tests.{by-option, never}
use Rattle.paper.proofs.Planning.{Gives, accepted-exactly}
use Rattle.exactly.specs.First.{carrying, NoneOf, Given, distinct}
use Rattle.exactly.specs.Words.{TooLong}
use Rattle.exactly.specs.Rows.{plan_rows}
use Rattle.exactly.proofs.First.{after-it, exactly, nothing-exactly}
use Rattle.exactly.proofs.Six.{Refuses, six-reads}
use Rattle.exactly.proofs.Plans.{reads-7, reads-8-by}

unstuck : (o : Outcome) → no_7 o ≡ none → (m : Made) × (o ≡ planned m)
unstuck (planned m) h = (m, refl)
unstuck (stuck c) h = never (cc)

module _ (lent : ℕ) (o : Outcome) where
  -- 8 of an outcome
  abbrev Long : ℕ → Type 0
  Long v = (m : Made) × (o ≡ planned m) × (v ≡ length m.moves) × TooLong lent (length m.moves)

  long-reads : no_7 o ≡ none → Refuses (no_8 lent (length (crossings_of o))) (carrying 8 Long ∷ [])
  unfolding crossings_of
  long-reads h =
      let u = unstuck o h in
      let same : crossings_of o ≡ u.0.moves = ap crossings_of u.1 in
      reads-8-by lent (length (crossings_of o)) Long
      (λ t. (u.0, u.1, ap length same, rw same at t))
      (λ v w. let e : crossings_of o ≡ w.0.moves = ap crossings_of w.1 in (w.2 ∙ ap length (sym e), rw e w.3))

  within-reads : Refuses (or_else (no_7 o) (no_8 lent (length (crossings_of o)))) (carrying 7 (λ c. o ≡ stuck c) ∷ carrying 8 Long ∷ [])
  within-reads = after-it number carried (reads-7 o) long-reads

refused-same : {r q : Refusal} → refused r ≡ refused q → r ≡ q
refused-same h = cc

-- an answer that is refused by the first of some tests, or else accepted
refused-exactly : (t : Option Refusal) (xs : List Crossing) (r : Refusal) → ((if_some t then refused else accepted xs) ≡ refused r) ↔ (t ≡ some r)
refused-exactly t xs r = (to t, λ e. rw e)
  where
    to : (t : Option Refusal) → (if_some t then refused else accepted xs) ≡ refused r → t ≡ some r
    to none h = never (cc)
    to (some q) h = ap some (refused-same h)

module _ (given : Order) (lent : ℕ) where
  abbrev outcome : Outcome
  outcome = procedure (yard_of given) given.goals given.starts

  abbrev tests : Option Refusal
  tests = or_else (first_six given 0) (or_else (no_7 outcome) (no_8 lent (length (crossings_of outcome))))

  plan-is : plan given lent ≡ (if_some tests then refused else accepted (crossings_of outcome))
  unfolding plan unless within
  plan-is = by-option (first_six given 0) (λ e. rw e) (λ r e. rw e)

  plan-reads : Refuses tests (plan_rows given lent)
  plan-reads = after-it number carried (six-reads given 0) (λ _. within-reads lent outcome)

  no-number-twice : distinct (1 ∷ 2 ∷ 3 ∷ 4 ∷ 5 ∷ 6 ∷ 7 ∷ 8 ∷ []) ≡ true
  unfolding distinct elem ◌and◌
  no-number-twice = refl

  -- Planning refuses exactly by the first of 1 to 8 that applies.
  pub plan-refuses : (r : Refusal) → (plan given lent ≡ refused r) ↔ Given (plan_rows given lent) (number r) (carried r)
  plan-refuses r =
      let e = exactly number carried plan-reads no-number-twice r in
      let f = refused-exactly tests (crossings_of outcome) r in
      (λ h. e.0 (f.0 (sym plan-is ∙ h)), λ g. plan-is ∙ f.1 (e.1 g))

  -- It accepts a plan exactly if none of them applies, and the plan is the procedure's.
  pub plan-accepts : (xs : List Crossing) → (plan given lent ≡ accepted xs) ↔ (NoneOf (plan_rows given lent) × Gives outcome xs)
  unfolding crossings_of
  plan-accepts xs =
      let e = nothing-exactly number carried plan-reads in (
        λ h. (
          by-option tests (λ t. e.0 t) (λ r t. let q : accepted xs ≡ refused r = sym h ∙ plan-is ∙ ap (λ t. if_some t then refused else accepted (crossings_of outcome)) t in never (cc)),
          ((accepted-exactly given lent xs).0 h).1,
        ),
        λ k. plan-is ∙ ap (λ t. if_some t then refused else accepted (crossings_of outcome)) (e.1 k.0) ∙ ap (λ o. accepted (crossings_of o)) k.1.1 ∙ ap accepted k.1.2,
      )
