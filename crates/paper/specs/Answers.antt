-- What planning, check, slots and report answer, in which order they test, and what they leave in the lent lists.
-- Assumes nothing.
use Rattle.std.specs.Prelude.{◌≡◌, Bool, true, false, ◌⊎◌, List, [], ◌++◌, map, ℕ, ◌<◌, length, set, drop, if◌then◌else◌}
use Rattle.std.proofs.Math.Option.{Option, none, some}
use Rattle.paper.specs.Basics.{if_some◌then◌else◌, or_else}
use Rattle.paper.specs.Yard.{Crossing, pack, crossings, after, most_crossings}
use Rattle.paper.specs.Order.{Order}
use Rattle.paper.specs.Procedure.{Made, Outcome, planned, stuck, procedure}
use Rattle.paper.specs.Dependence.{slots, is_done}
use Rattle.paper.specs.Docket.{Refusal, Verdict, granted, denied, yard_of, no_1, no_2, no_3, no_4, no_5, no_6, no_7, no_8, no_9, no_10, no_11, no_12, no_13}

-- the first of 1 to 6, by number; `lent` is the lent plan's crossings, 0 where none is lent
unfoldable pub first_six : Order → ℕ → Option Refusal
first_six o lent =
    or_else (no_1 o lent)
    (or_else (no_2 o)
    (or_else (no_3 o)
    (or_else (no_4 o)
    (or_else (no_5 o)
    (no_6 o)))))

-- ## Planning

pub data Answer : Type 0 where
  accepted : List Crossing → Answer
  refused : Refusal → Answer

-- an answer as it is told: a plan by its length, for the plan itself is in the lent list
abbrev pub told : Answer → Verdict
told (accepted xs) = granted (length xs)
told (refused r) = denied r

unfoldable pub crossings_of : Outcome → List Crossing
crossings_of (planned m) = m.moves
crossings_of (stuck c) = []

unfoldable pub parked_of : Outcome → ℕ
parked_of (planned m) = m.parked
parked_of (stuck c) = 0

-- the outcome is a plan of these crossings
abbrev pub Gives : Outcome → List Crossing → Type 0
Gives o xs = (m : Made) × (o ≡ planned m) × (m.moves ≡ xs)

-- longer than the lent list, or over 65,536
abbrev pub TooLong : ℕ → ℕ → Type 0
TooLong lent needed = (lent < needed) ⊎ (most_crossings < needed)

-- 7, then 8 for a list of so many places
unfoldable pub within : ℕ → Outcome → Answer
within lent o = if_some or_else (no_7 o) (no_8 lent (length (crossings_of o))) then refused else accepted (crossings_of o)

unfoldable pub unless : Option Refusal → Answer → Answer
unless none a = a
unless (some r) a = refused r

-- "Planning tests 1 to 8 by number." The lent list has so many places.
unfoldable pub plan : Order → ℕ → Answer
plan o lent =
    let result = within lent (procedure (yard_of o) o.goals o.starts) in
    unless (first_six o 0) result

-- what is carried beside an accepted plan; 0 beside a refusal
unfoldable pub beside : Answer → ℕ → ℕ
beside (accepted xs) k = k
beside (refused r) k = 0

-- "The planner's answer then carries how many vacates in the plan, undoing left aside, filled a bay of three rails or more."
unfoldable pub plan_parked : Order → ℕ → ℕ
plan_parked o lent = beside (plan o lent) (parked_of (procedure (yard_of o) o.goals o.starts))

-- "Acceptance by the planner writes the plan and nothing beyond its length."
unfoldable pub written : Answer → List ℕ → List ℕ
written (accepted xs) lent = map pack xs ++ drop (length xs) lent
written (refused r) lent = lent

abbrev pub plan_end : Order → List ℕ → List ℕ
plan_end o lent = written (plan o (length lent)) lent

-- ## Check, slots, report

pub data Report : Type 0 where
  accept already : Report
  refuse : Refusal → Report

unfoldable pub accepts : Report → Bool
accepts accept = true
accepts already = false
accepts (refuse r) = false

-- Once the check has passed: "11, 12; then a done name answers "already"; then 13; else "accepted"".
unfoldable pub tell : List Crossing → List ℕ → ℕ → Report
tell xs marks name =
    let last = if_some no_13 xs marks name then refuse else accept in
    let known = if is_done marks name then already else last in
    if_some or_else (no_11 xs marks) (no_12 xs name) then refuse else known

-- "an accepted report changes the mark of the reported name from 0 to 1 and no other"
unfoldable pub marks_after : List ℕ → ℕ → Report → List ℕ
marks_after marks name accept = set marks name 1
marks_after marks name already = marks
marks_after marks name (refuse r) = marks

module _ (o : Order) (plan : List ℕ) where
  -- "The check tests 1 to 6, then 9, 10." None of them: it passes.
  unfoldable pub check : Option Refusal
  check =
      let xs = crossings plan in
      or_else (first_six o (length plan))
      (or_else (no_9 (yard_of o) o.starts xs)
      (no_10 o.goals (after o.starts xs)))

  -- "Slots do the same, then 8 for the slot list", which has so many places
  unfoldable pub slots_refusal : ℕ → Option Refusal
  slots_refusal lent = or_else check (no_8 lent (length plan))

  -- "slots likewise": acceptance writes the slots and nothing beyond their length
  unfoldable pub slots_end : List ℕ → List ℕ
  slots_end lent = if_some slots_refusal (length lent) then (λ r. lent) else (slots (crossings plan) ++ drop (length plan) lent)

  -- "A report does 1 to 6, 9, 10, 11, 12; then [..]"
  unfoldable pub report : List ℕ → ℕ → Report
  report marks name = let rest = tell (crossings plan) marks name in if_some check then refuse else rest

  abbrev pub marks_end : List ℕ → ℕ → List ℕ
  marks_end marks name = marks_after marks name (report marks name)
