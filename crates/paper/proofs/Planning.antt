-- What the planner answers, and when: an accepted plan is the procedure's, legal, and ends at the goals; 7 and 8 come exactly
-- when the document says, and after 1 to 6.
use mathlib.Core.Path.{◌≡◌, refl, ◌∙◌, ap}
use mathlib.Core.Bool.{true}
use mathlib.Core.List.{List, ◌++◌, map}
use mathlib.Core.Logic.{◌↔◌, inl, inr, ⊎_elim}
use mathlib.Core.Option.{none, some}
use Prim.Native.Nat.{ℕ, ◌≤◌}
use native.Mathlib.Omega.{arith}
use lib.Dec.{ltb}
use lib.ListN.{length, drop}
use borrow.Author.Tests.{ltb-true, ltb-false, le-ltb, lt-ltb}
use Rattle.paper.specs.Basics.{◌or◌}
use Rattle.paper.specs.Yard.{Carrier, Crossing, after, legal_plan, pack, most_crossings}
use Rattle.paper.specs.Order.{Order}
use Rattle.paper.specs.Procedure.{Made, Outcome, planned, stuck, procedure}
use Rattle.paper.specs.Docket.{Refusal, number, apart, stopped, room, yard_of}
use Rattle.paper.specs.Answers.{accepted, refused, crossings_of, parked_of, within, unless, plan, beside, plan_parked, written, plan_end, first_six}
pub use Rattle.paper.specs.Answers.{TooLong, Gives}
use Rattle.paper.proofs.Tests.{by_cases, by-option, or-neither, or_left, or_right, never}
use Rattle.paper.proofs.Carrying.{procedure-right, by-outcome}
use Rattle.paper.proofs.Admitted.{clean_of, sound-of, good_of, six-number}

module _ (lent : ℕ) where
  pub within-stuck : (c : Carrier) → within lent (stuck c) ≡ refused (stopped c)
  unfolding within
  within-stuck c = refl

  pub within-fits : (m : Made) → length m.moves ≤ lent → length m.moves ≤ most_crossings → within lent (planned m) ≡ accepted m.moves
  unfolding within crossings_of
  within-fits m h k = rw (or-neither _ _ (le-ltb lent (length m.moves) h) (le-ltb most_crossings (length m.moves) k))

  pub within-long : (m : Made) → TooLong lent (length m.moves) → within lent (planned m) ≡ refused (room (length m.moves))
  unfolding within crossings_of
  within-long m h =
      let xs = m.moves in
      let t : ltb lent (length xs) or ltb most_crossings (length xs) ≡ true =
      ⊎_elim (λ l. or_left _ _ (lt-ltb _ _ l)) (λ l. or_right _ _ (lt-ltb _ _ l)) h in
      rw t

  pub by_length : {P : Type 0} (xs : List Crossing) → (length xs ≤ lent → length xs ≤ most_crossings → P) → (TooLong lent (length xs) → P) → P
  by_length xs f g =
      by_cases (ltb lent (length xs))
      (λ e. g (inl (ltb-true _ _ e)))
      (λ e. by_cases (ltb most_crossings (length xs))
      (λ k. g (inr (ltb-true _ _ k)))
      (λ k. f (ltb-false _ _ e) (ltb-false _ _ k)))

module _ (given : Order) (lent : ℕ) where
  abbrev outcome : Outcome
  outcome = procedure (yard_of given) given.goals given.starts

  pub plan-clean : first_six given 0 ≡ none → plan given lent ≡ within lent outcome
  unfolding plan unless
  plan-clean h = rw h

  pub plan-unclean : (r : Refusal) → first_six given 0 ≡ some r → plan given lent ≡ refused r
  unfolding plan unless
  plan-unclean r h = rw h

  -- every way in which an answer comes about
  by-plan : {P : Type 0}
      → ((r : Refusal) → number r ≤ 6 → plan given lent ≡ refused r → P)
      → (first_six given 0 ≡ none → (c : Carrier) → outcome ≡ stuck c → plan given lent ≡ refused (stopped c) → P)
      → (first_six given 0 ≡ none → (m : Made) → outcome ≡ planned m → TooLong lent (length m.moves) → plan given lent ≡ refused (room (length m.moves)) → P)
      → (first_six given 0 ≡ none → (m : Made) → outcome ≡ planned m → length m.moves ≤ lent → length m.moves ≤ most_crossings → plan given lent ≡ accepted m.moves → P)
      → P
  by-plan early stops long fits =
      by-option (first_six given 0)
      (λ e. by-outcome outcome
      (λ m o. by_length lent m.moves
      (λ h k. fits e m o h k (plan-clean e ∙ ap (within lent) o ∙ within-fits lent m h k))
      (λ h. long e m o h (plan-clean e ∙ ap (within lent) o ∙ within-long lent m h)))
      (λ c o. stops e c o (plan-clean e ∙ ap (within lent) o ∙ within-stuck lent c)))
      (λ r e. early r (six-number given 0 r e) (plan-unclean r e))

  -- A plan is accepted exactly if 1 to 6 pass, the procedure gives it, and it fits.
  pub accepted-exactly : (xs : List Crossing) → (plan given lent ≡ accepted xs)
      ↔ ((first_six given 0 ≡ none) × Gives outcome xs × (length xs ≤ lent) × (length xs ≤ most_crossings))
  accepted-exactly xs = (
    λ h. by-plan
        (λ r l e. never (cc))
        (λ f c o e. never (cc))
        (λ f ys o t e. never (cc))
        (λ f m o a b e. let z : m.moves ≡ xs = cc in (f, (m, o, z), rw z at a, rw z at b)),
    λ k. let m = k.1.0 in let z : m.moves ≡ xs = k.1.2 in
        plan-clean k.0 ∙ ap (within lent) k.1.1 ∙ within-fits lent m (rw z k.2) (rw z k.3) ∙ ap accepted z,
  )

  -- 7 carries c exactly if 1 to 6 pass and the procedure stops with c.
  pub stopped-exactly : (c : Carrier) → (plan given lent ≡ refused (stopped c))
      ↔ ((first_six given 0 ≡ none) × (outcome ≡ stuck c))
  stopped-exactly c = (
    λ h. by-plan
        (λ r l e. let z : r ≡ stopped c = cc in let w = rw z at l in absurd (omega arith))
        (λ f d o e. let z : d ≡ c = cc in (f, o ∙ ap stuck z))
        (λ f m o t e. never (cc))
        (λ f m o a b e. never (cc)),
    λ k. plan-clean k.0 ∙ ap (within lent) k.1 ∙ within-stuck lent c,
  )

  -- 8 carries m exactly if 1 to 6 pass, the procedure gives a list of m crossings, and that is longer than the lent list or over 65,536.
  pub room-exactly : (m : ℕ) → (plan given lent ≡ refused (room m))
      ↔ ((first_six given 0 ≡ none) × ((xs : List Crossing) × Gives outcome xs × (length xs ≡ m)) × TooLong lent m)
  room-exactly m = (
    λ h. by-plan
        (λ r l e. let z : r ≡ room m = cc in let w = rw z at l in absurd (omega arith))
        (λ f d o e. never (cc))
        (λ f made o t e. let z : length made.moves ≡ m = cc in (f, (made.moves, (made, o, refl), z), rw z at t))
        (λ f made o a b e. never (cc)),
    λ k. let made = k.1.1.0 in
        let z : length made.moves ≡ m = ap length k.1.1.2 ∙ k.1.2 in
        plan-clean k.0 ∙ ap (within lent) k.1.1.1 ∙ within-long lent made (rw z k.2) ∙ ap (λ l. refused (room l)) z,
  )

  -- An accepted plan is legal from the starts and ends at the goals.
  pub accepted-right : (xs : List Crossing) → plan given lent ≡ accepted xs
      → (legal_plan (yard_of given) given.starts xs ≡ true) × (after given.starts xs ≡ given.goals)
  accepted-right xs h =
      let a = (accepted-exactly xs).0 h in
      let c = clean_of given 0 a.0 in
      let Y = yard_of given in
      let gg = good_of given given.goals c.goals in
      rw (← a.1.2)
      (procedure-right Y (sound-of given c.rails) given.goals gg.apart gg given.starts a.1.0
      (good_of given given.starts c.starts) c.sizes.same_length a.1.1)

  -- What an accepted plan carries is what its procedure counted; beside a refusal it is 0.
  pub accepted-parked : (m : Made) → outcome ≡ planned m → plan given lent ≡ accepted m.moves → plan_parked given lent ≡ m.parked
  unfolding plan_parked beside parked_of
  accepted-parked m o e = rw (e, o)

  pub refused-parked : (r : Refusal) → plan given lent ≡ refused r → plan_parked given lent ≡ 0
  unfolding plan_parked beside
  refused-parked r e = rw e

-- "Acceptance by the planner writes the plan and nothing beyond its length."
pub plan_written : (o : Order) (lent : List ℕ) (xs : List Crossing) → plan o (length lent) ≡ accepted xs
    → plan_end o lent ≡ map pack xs ++ drop (length xs) lent
unfolding written
plan_written o lent xs h = rw h
