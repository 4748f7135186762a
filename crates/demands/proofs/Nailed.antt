-- What the demands nail, derived from their records alone: each law takes a demand as given and cites its fields, so a record that said less would not do.
use mathlib.Core.Path.{◌≡◌, refl, sym}
use mathlib.Core.Bool.{true, false}
use mathlib.Core.Logic.{◌⊎◌, inl, inr}
use mathlib.Core.List.{List, ◌++◌, map}
use mathlib.Core.Option.{none}
use Prim.Native.Nat.{ℕ, ◌<◌, ◌≤◌}
use native.Mathlib.Omega.{arith}
use lib.ListN.{length, drop, get_or}
use Rattle.paper.specs.Basics.{In, NoDup}
use Rattle.paper.specs.Yard.{Carrier, Crossing, after, legal_plan, crossings, pack, most_crossings}
use Rattle.paper.specs.Order.{Order}
use Rattle.paper.specs.Procedure.{stuck, procedure}
use Rattle.paper.specs.Dependence.{is_done, count_of, slots, Numbering, Ready, placement_by}
use Rattle.paper.specs.Docket.{yard_of, bad_marks, stopped, room, Refusal}
use Rattle.paper.specs.Answers.{Answer, check, Report, accept, already, refuse, report, accepted, refused, plan, plan_end, first_six, Gives, TooLong, slots_refusal, slots_end, marks_end}
use Rattle.paper.specs.Log.{Request, answer_to, marks_by, marks_of, names_of, accepted_of}
use Rattle.demands.specs.Demands.{Demand1, Demand2, Demand3}
use Rattle.paper.proofs.Tests.{by-option, never}

by_answer : {P : Type 0} (a : Answer) → ((xs : List Crossing) → a ≡ accepted xs → P) → ((r : Refusal) → a ≡ refused r → P) → P
by_answer (accepted xs) f g = f xs refl
by_answer (refused r) f g = g r refl

module _ (o : Order) where
  -- ## Demand 1: a lent list is left as it was, or holds the result and what stood behind it

  pub list-or-plan : Demand1 o → (lent : List ℕ) → (plan_end o lent ≡ lent)
      ⊎ ((xs : List Crossing) × (plan_end o lent ≡ map pack xs ++ drop (length xs) lent))
  list-or-plan d lent =
      by_answer (plan o (length lent)) (λ xs e. inr (xs, d.plan_written lent xs e)) (λ r e. inl (d.plan_refused lent r e))

  pub list-or-slots : Demand1 o → (crossed lent : List ℕ) → (slots_end o crossed lent ≡ lent)
      ⊎ (slots_end o crossed lent ≡ slots (crossings crossed) ++ drop (length crossed) lent)
  list-or-slots d crossed lent =
      by-option (slots_refusal o crossed (length lent)) (λ e. inr (d.slots_written crossed lent e)) (λ r e. inl (d.slots_refused crossed lent r e))

  pub marks-or-accepted : Demand1 o → (crossed marks : List ℕ) (name : ℕ)
      → (marks_end o crossed marks name ≡ marks) ⊎ (report o crossed marks name ≡ accept)
  marks-or-accepted d crossed marks name = by-report (report o crossed marks name) refl
    where
      by-report : (r : Report) → report o crossed marks name ≡ r
          → (marks_end o crossed marks name ≡ marks) ⊎ (report o crossed marks name ≡ accept)
      by-report accept e = inr e
      by-report already e = inl (d.not_accepted crossed marks name (λ h. never (cc)))
      by-report (refuse r) e = inl (d.not_accepted crossed marks name (λ h. never (cc)))

  -- ## Demand 2

  module _ (d : Demand2 o) (lent : ℕ) where
    -- "a planner that only refuses, or gives one plan to all": it has to hand out the procedure's plan where that fits, legal and ending at the goals
    pub hands_out : first_six o 0 ≡ none → (xs : List Crossing) → Gives (procedure (yard_of o) o.goals o.starts) xs → length xs ≤ lent → length xs ≤ most_crossings
        → (plan o lent ≡ accepted xs) × (legal_plan (yard_of o) o.starts xs ≡ true) × (after o.starts xs ≡ o.goals)
    hands_out f xs p l m = let e = (d.the_procedure lent xs).1 (f, p, l, m) in let k = d.legal_home lent xs e in (e, k.0, k.1)

    pub hands-out-that-one : (xs : List Crossing) → plan o lent ≡ accepted xs
        → Gives (procedure (yard_of o) o.goals o.starts) xs × (length xs ≤ lent) × (length xs ≤ most_crossings)
    hands-out-that-one xs e = let k = (d.the_procedure lent xs).0 e in (k.1, k.2, k.3)

    -- "a planner that serves carrier 0 and then stops": it stops where the procedure does, and only there
    pub stops-there : (c : Carrier) → plan o lent ≡ refused (stopped c) → procedure (yard_of o) o.goals o.starts ≡ stuck c
    stops-there c e = ((d.stops lent c).0 e).1

    pub stops_then : (c : Carrier) → first_six o 0 ≡ none → procedure (yard_of o) o.goals o.starts ≡ stuck c
        → plan o lent ≡ refused (stopped c)
    stops_then c f p = (d.stops lent c).1 (f, p)

    -- "an invented needed length": it is the length of the procedure's plan
    pub needed-length : (m : ℕ) → plan o lent ≡ refused (room m)
        → (xs : List Crossing) × Gives (procedure (yard_of o) o.goals o.starts) xs × (length xs ≡ m) × TooLong lent m
    needed-length m e = let k = (d.no_room lent m).0 e in (k.1.0, k.1.1, k.1.2, k.2)

    pub no-room-then : (xs : List Crossing) → first_six o 0 ≡ none → Gives (procedure (yard_of o) o.goals o.starts) xs → TooLong lent (length xs)
        → plan o lent ≡ refused (room (length xs))
    no-room-then xs f p t = (d.no_room lent (length xs)).1 (f, (xs, p, refl), t)

  -- "one slot per crossing": a numbering that no other is below is the slots
  pub slots-are-those : Demand2 o → (xs : List Crossing) (t : ℕ → ℕ) → Numbering xs t
      → ((u : ℕ → ℕ) → Numbering xs u → (i : ℕ) → i < length xs → t i ≤ u i) → (i : ℕ) → i < length xs → t i ≡ get_or (slots xs) i 0
  slots-are-those d xs t k low i l =
      let a = d.slots_are_lowest xs t k i l in
      let b = low (λ j. get_or (slots xs) j 0) (d.slots_rise_along xs) i l in
      omega arith

  -- "a log that never marks": it accepts what is ready, and nothing else
  module _ (d : Demand2 o) (crossed marks : List ℕ) (passes : check o crossed ≡ none) (fine : bad_marks (crossings crossed) marks ≡ false) where
    pub accepts-ready : (i : ℕ) → i < length (crossings crossed) → is_done marks i ≡ false → Ready (crossings crossed) marks i
        → report o crossed marks i ≡ accept
    accepts-ready i l u r = (d.accepts_exactly crossed marks passes fine i).1 (l, u, r)

    pub accepts-only-ready : (i : ℕ) → report o crossed marks i ≡ accept
        → (i < length (crossings crossed)) × (is_done marks i ≡ false) × Ready (crossings crossed) marks i
    accepts-only-ready i h = (d.accepts_exactly crossed marks passes fine i).0 h

  -- ## Demand 3

  module _ (plan : List ℕ) (qs : List Request) (d : Demand3 o plan qs) where
    -- an order sent again after a lost acknowledgement: the name stands once among the accepted, the answer is "already", and no mark changes
    pub lost-acknowledgement : (i : ℕ) → In i (names_of plan qs) → (q : Request) → q.name ≡ i
        → NoDup (names_of plan qs) × (report o plan (marks_of plan qs) i ≡ already) × (marks_by plan (marks_of plan qs) q ≡ marks_of plan qs)
    lost-acknowledgement i m q e = (d.once, d.answered i m, d.repeats q (rw e m))

    -- whatever is asked, a mark changes only by acceptance
    pub marks-by-acceptance : (q : Request) → (marks_by plan (marks_of plan qs) q ≡ marks_of plan qs) ⊎ (answer_to plan (marks_of plan qs) q ≡ accept)
    marks-by-acceptance q = by-report (answer_to plan (marks_of plan qs) q) refl
      where
        by-report : (r : Report) → answer_to plan (marks_of plan qs) q ≡ r
            → (marks_by plan (marks_of plan qs) q ≡ marks_of plan qs) ⊎ (answer_to plan (marks_of plan qs) q ≡ accept)
        by-report accept e = inr e
        by-report already e = inl (d.unchanged q (λ h. never (cc)))
        by-report (refuse r) e = inl (d.unchanged q (λ h. never (cc)))

    -- where the done crossings, in plan order, leave the carriers, legal crossings led, and a crossing is done exactly if its name was accepted
    pub stands-by-marks : (legal_plan (yard_of o) o.starts (accepted_of plan qs) ≡ true)
        × (placement_by o.starts (crossings plan) (marks_of plan qs) ≡ after o.starts (accepted_of plan qs))
        × ((i : ℕ) → In i (names_of plan qs) → is_done (marks_of plan qs) i ≡ true)
        × ((i : ℕ) → is_done (marks_of plan qs) i ≡ true → In i (names_of plan qs))
    stands-by-marks = (d.lawful, sym d.same, λ i. (d.marked i).1, λ i. (d.marked i).0)

    -- the log never freezes: some name would be accepted, or all are done and every carrier is home with its plan's count of crossings
    pub goes-on-or-home : ((i : ℕ) → (i < length plan → ⊥) ⊎ (is_done (marks_of plan qs) i ≡ true))
        → (after o.starts (accepted_of plan qs) ≡ o.goals) × ((c : Carrier) → count_of c (accepted_of plan qs) ≡ count_of c (crossings plan))
    goes-on-or-home f = d.all_home (λ i l. one (f i) l)
      where
        one : {i : ℕ} → (i < length plan → ⊥) ⊎ (is_done (marks_of plan qs) i ≡ true) → i < length plan → is_done (marks_of plan qs) i ≡ true
        one (inl out) l = absurd (out l)
        one (inr done) l = done

    pub never_stuck : (i : ℕ) → i < length plan → is_done (marks_of plan qs) i ≡ false → (j : ℕ) × (report o plan (marks_of plan qs) j ≡ accept)
    never_stuck i l u = d.goes_on i l u
