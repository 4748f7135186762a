-- Demand 3 over record, lines and marks together, as a record of what has to hold. proofs/Demand3 proves it whole, and proofs/Nailed derives from it alone what a biller
-- relies on.
-- Assumes nothing.
use Rattle.std.specs.Prelude.{◌≡◌, true, false, ◌↔◌, List, [], ◌∷◌, map, ℕ, ◌<◌, ◌+◌, eqb, length, get_or, if◌then◌else◌}
use Rattle.paper.specs.Basics.{In, NoDup}
use Rattle.paper.specs.Yard.{Carrier, Placement, Crossing, after, legal_plan, crossings, named}
use Rattle.paper.specs.Order.{Order}
use Rattle.paper.specs.Dependence.{is_done, count_of, placement_by}
use Rattle.paper.specs.Docket.{yard_of}
use Rattle.paper.specs.Answers.{accept, already}
use Rattle.paper.specs.Log.{Request}
use Rattle.bills.specs.Billing.{places, untouched, no_line, record_of, lines_of}
use Rattle.bills.specs.Keeping.{Books, answer_on, books_by, fresh_books, books_from, billed_from}
use Rattle.bills.specs.declared.Record.{Record}
use Rattle.bills.specs.declared.Line.{Line}

-- record and lines are what plan, start and marks give worked out afresh
abbrev pub Afresh : Placement → List ℕ → List ℕ → Record → List Line → Type 0
Afresh starts plan marks rec lines = (rec ≡ record_of starts (crossings plan) marks) × (lines ≡ lines_of (length starts) (crossings plan) marks)

-- the crossings billed, over all lines
unfoldable pub total_billed : List Line → ℕ
total_billed [] = 0
total_billed (l ∷ ls) = l.billed + total_billed ls

-- the last of the names that is carrier c's, or `last`
unfoldable pub last_of : Carrier → List Crossing → ℕ → List ℕ → ℕ
last_of c xs last [] = last
last_of c xs last (i ∷ is) = let here = if eqb (named xs i).carrier c then i else last in last_of c xs here is

-- reports on a plan one after the other, on books as opening on fresh marks leaves them: the books at the end, the names accepted, their crossings
module _ (starts : Placement) (plan : List ℕ) (qs : List Request) where
  abbrev pub books_end : Books
  books_end = books_from plan (fresh_books plan starts) qs

  abbrev pub names_billed : List ℕ
  names_billed = billed_from plan (fresh_books plan starts) qs

  abbrev pub crossings_billed : List Crossing
  crossings_billed = map (named (crossings plan)) names_billed

-- a report with the check's yard, start and goal
abbrev pub asked : Order → ℕ → Request
asked o i = record { order = o; name = i }

-- books on which every crossing of the plan is done
pub record AllBilled (starts goals : Placement) (plan : List ℕ) (b : Books) : Type 0 where
  -- every carrier is home,
  pub home : b.running.at ≡ places goals
  -- each line has its carrier's count in the plan, and the plan is billed, no more and no less.
  pub each : (c : Carrier) → c < length starts → (get_or b.lines c no_line).billed ≡ count_of c (crossings plan)
  pub billed : total_billed b.lines ≡ length plan
  pub done : b.running.done ≡ length plan

pub record Demand3Billed (o : Order) (plan : List ℕ) (qs : List Request) : Type 0 where
  -- record and lines are what plan, start and marks give worked out afresh,
  pub afresh : Afresh o.starts plan (books_end o.starts plan qs).marks (books_end o.starts plan qs).running (books_end o.starts plan qs).lines
  -- the accepted crossings, in the order accepted, are each legal,
  pub lawful : legal_plan (yard_of o) o.starts (crossings_billed o.starts plan qs) ≡ true
  -- and leave the carriers where those same crossings in plan order would, and where the record says:
  pub same : after o.starts (crossings_billed o.starts plan qs) ≡ placement_by o.starts (crossings plan) (books_end o.starts plan qs).marks
  pub placed : (books_end o.starts plan qs).running.at ≡ places (after o.starts (crossings_billed o.starts plan qs))
  -- (those marked done are the accepted ones, each accepted once; each is billed once).
  pub marked : (i : ℕ) → (is_done (books_end o.starts plan qs).marks i ≡ true) ↔ In i (names_billed o.starts plan qs)
  pub once : NoDup (names_billed o.starts plan qs)
  pub each_billed : (c : Carrier) → c < length o.starts → (get_or (books_end o.starts plan qs).lines c no_line).billed ≡ count_of c (crossings_billed o.starts plan qs)
  pub all_billed : total_billed (books_end o.starts plan qs).lines ≡ (books_end o.starts plan qs).running.done
  -- Each line has its carrier's last name accepted.
  pub last_names : (c : Carrier) → c < length o.starts
      → (get_or (books_end o.starts plan qs).lines c no_line).last ≡ last_of c (crossings plan) untouched (names_billed o.starts plan qs)
  -- A repeat changes nothing, whatever it comes with, and with that check's yard, start and goal it answers "already".
  pub repeats : (q : Request) → In q.name (names_billed o.starts plan qs) → books_by plan (books_end o.starts plan qs) q ≡ books_end o.starts plan qs
  pub answered : (i : ℕ) → In i (names_billed o.starts plan qs) → answer_on plan (books_end o.starts plan qs) (asked o i) ≡ already
  -- Whatever is not accepted changes neither marks nor record nor lines.
  pub unchanged : (q : Request) → (answer_on plan (books_end o.starts plan qs) q ≡ accept → ⊥) → books_by plan (books_end o.starts plan qs) q ≡ books_end o.starts plan qs
  -- While one is undone, some name would be accepted in a report with that check's yard, start and goal.
  pub goes_on : (i : ℕ) → i < length plan → is_done (books_end o.starts plan qs).marks i ≡ false
      → (j : ℕ) × (answer_on plan (books_end o.starts plan qs) (asked o j) ≡ accept)
  -- With all done, every carrier is home and has been billed its plan's count of crossings.
  pub all_home : ((i : ℕ) → i < length plan → is_done (books_end o.starts plan qs).marks i ≡ true) → AllBilled o.starts o.goals plan (books_end o.starts plan qs)
