-- The user's demands, as records of what has to hold of the definitions. proofs/Demands proves each of them whole, and proofs/Nailed derives from the
-- records alone what the document wants nailed.
-- Assumes nothing.
use Rattle.std.specs.Prelude.{◌≡◌, true, false, ◌↔◌, List, ◌++◌, map, ℕ, ◌<◌, ◌≤◌, length, drop, get_or}
use Rattle.std.proofs.Math.Option.{none, some}
use Rattle.paper.specs.Basics.{In, NoDup}
use Rattle.paper.specs.Yard.{Carrier, Crossing, after, legal_plan, crossings, pack, most_crossings}
use Rattle.paper.specs.Order.{Order}
use Rattle.paper.specs.Procedure.{stuck, procedure}
use Rattle.paper.specs.Dependence.{is_done, count_of, slots, Numbering, Ready, placement_by}
use Rattle.paper.specs.Docket.{yard_of, bad_marks, stopped, room, Refusal}
use Rattle.paper.specs.Answers.{check, accept, already, report, accepted, refused, plan, plan_end, first_six, Gives, TooLong, slots_refusal, slots_end, marks_end}
use Rattle.paper.specs.Log.{Request, answer_to, marks_by, marks_of, names_of, accepted_of}

-- ## Demand 1: "Each refusal has its number and order, and leaves the lent lists unchanged."
-- Every definition answers every input; the order of the tests is Answers', the numbers are the table's.
pub record Demand1 (o : Order) : Type 0 where
  -- a refused plan, refused slots, and a report that is not accepted leave the lent list as it was,
  pub plan_refused : (lent : List ℕ) (r : Refusal) → plan o (length lent) ≡ refused r → plan_end o lent ≡ lent
  pub slots_refused : (crossed lent : List ℕ) (r : Refusal) → slots_refusal o crossed (length lent) ≡ some r
      → slots_end o crossed lent ≡ lent
  pub not_accepted : (crossed marks : List ℕ) (name : ℕ) → (report o crossed marks name ≡ accept → ⊥)
      → marks_end o crossed marks name ≡ marks
  -- and acceptance writes the plan, or the slots, and nothing beyond.
  pub plan_written : (lent : List ℕ) (xs : List Crossing) → plan o (length lent) ≡ accepted xs
      → plan_end o lent ≡ map pack xs ++ drop (length xs) lent
  pub slots_written : (crossed lent : List ℕ) → slots_refusal o crossed (length lent) ≡ none
      → slots_end o crossed lent ≡ slots (crossings crossed) ++ drop (length crossed) lent

-- ## Demand 2
pub record Demand2 (o : Order) : Type 0 where
  -- "Every plan handed out is legal by the pebble-motion rule of the Push and Rotate paper and ends at the goals."
  pub legal_home : (lent : ℕ) (xs : List Crossing) → plan o lent ≡ accepted xs
      → (legal_plan (yard_of o) o.starts xs ≡ true) × (after o.starts xs ≡ o.goals)
  -- "It is the plan of the fixed procedure in document 01;
  pub the_procedure : (lent : ℕ) (xs : List Crossing) → (plan o lent ≡ accepted xs)
      ↔ ((first_six o 0 ≡ none) × Gives (procedure (yard_of o) o.goals o.starts) xs × (length xs ≤ lent) × (length xs ≤ most_crossings))
  -- "stopped" and "no room" come exactly when that document says."
  pub stops : (lent : ℕ) (c : Carrier) → (plan o lent ≡ refused (stopped c))
      ↔ ((first_six o 0 ≡ none) × (procedure (yard_of o) o.goals o.starts ≡ stuck c))
  pub no_room : (lent m : ℕ) → (plan o lent ≡ refused (room m))
      ↔ ((first_six o 0 ≡ none)
      × ((xs : List Crossing) × Gives (procedure (yard_of o) o.goals o.starts) xs × (length xs ≡ m))
      × TooLong lent m)
  -- "Each crossing's slot is the lowest that dependence permits."
  pub slots_rise_along : (xs : List Crossing) → Numbering xs (λ i. get_or (slots xs) i 0)
  pub slots_are_lowest : (xs : List Crossing) (t : ℕ → ℕ) → Numbering xs t → (i : ℕ) → i < length xs → get_or (slots xs) i 0 ≤ t i
  -- "With plan and marks in order, a reported name is accepted exactly if it is in the plan, not yet done, and every earlier
  -- crossing it depends on is done."
  pub accepts_exactly : (crossed marks : List ℕ) → check o crossed ≡ none → bad_marks (crossings crossed) marks ≡ false
      → (i : ℕ) → (report o crossed marks i ≡ accept)
      ↔ ((i < length (crossings crossed)) × (is_done marks i ≡ false) × Ready (crossings crossed) marks i)

-- ## Demand 3: reports on a plan that passes the check, one after the other, from fresh marks, each with a yard, a start and a goal of its own
pub record Demand3 (o : Order) (plan : List ℕ) (qs : List Request) : Type 0 where
  -- the accepted crossings, in the order accepted, are each legal,
  pub lawful : legal_plan (yard_of o) o.starts (accepted_of plan qs) ≡ true
  -- and leave the carriers where those same crossings in plan order would:
  pub same : after o.starts (accepted_of plan qs) ≡ placement_by o.starts (crossings plan) (marks_of plan qs)
  -- (those marked done are the accepted ones, each accepted once).
  pub marked : (i : ℕ) → (is_done (marks_of plan qs) i ≡ true) ↔ In i (names_of plan qs)
  pub once : NoDup (names_of plan qs)
  -- A repeat changes nothing, whatever it comes with, and with that check's yard, start and goal it answers "already".
  pub repeats : (q : Request) → In q.name (names_of plan qs) → marks_by plan (marks_of plan qs) q ≡ marks_of plan qs
  pub answered : (i : ℕ) → In i (names_of plan qs) → report o plan (marks_of plan qs) i ≡ already
  -- Whatever is not accepted changes no mark.
  pub unchanged : (q : Request) → (answer_to plan (marks_of plan qs) q ≡ accept → ⊥) → marks_by plan (marks_of plan qs) q ≡ marks_of plan qs
  -- While one is undone, some name would be accepted in a report with that check's yard, start and goal.
  pub goes_on : (i : ℕ) → i < length plan → is_done (marks_of plan qs) i ≡ false → (j : ℕ) × (report o plan (marks_of plan qs) j ≡ accept)
  -- With all done, every carrier is home and has made its plan's count of crossings.
  pub all_home : ((i : ℕ) → i < length plan → is_done (marks_of plan qs) i ≡ true)
      → (after o.starts (accepted_of plan qs) ≡ o.goals) × ((c : Carrier) → count_of c (accepted_of plan qs) ≡ count_of c (crossings plan))
