-- The order of testing: for each function the rows of the table that it tests, in the document's order. proofs/ shows that each
-- answers exactly by its list.
-- Assumes nothing.
use Rattle.std.specs.Prelude.{List, [], ◌∷◌, ◌++◌, ◌≡◌, ℕ, length}
use Rattle.std.proofs.Math.Option.{Option, none}
use Rattle.paper.specs.Yard.{crossings, after}
use Rattle.paper.specs.Order.{Order}
use Rattle.paper.specs.Procedure.{Made, planned, stuck, procedure}
use Rattle.paper.specs.Docket.{number, carried, yard_of}
use Rattle.paper.specs.Answers.{Report, accept, already, refuse}
use Rattle.exactly.specs.First.{Row, plain, carrying}
use Rattle.exactly.specs.Words.{WrongSize, FirstBadRail, LowestApart, Crowded, FirstBadPlace, TooLong, FirstIllegal, LowestAway, mark, BadMarks, NotInPlan, LowestUndone}

-- "already" is no refusal and has no number in the table; among the rows it stands under one that no refusal has
abbrev pub already_number : ℕ
already_number = 100

abbrev pub report_number : Report → ℕ
report_number accept = 0
report_number already = already_number
report_number (refuse r) = number r

abbrev pub report_value : Report → Option ℕ
report_value accept = none
report_value already = none
report_value (refuse r) = carried r

-- 8, of a result of so many
abbrev pub no_room : ℕ → ℕ → Row
no_room lent needed = carrying 8 (λ v. (v ≡ needed) × TooLong lent needed)

module _ (o : Order) where
  -- "1 to 6"; `lent` is the lent plan's crossings, 0 where none is lent
  abbrev pub six : ℕ → List Row
  six lent =
      plain 1 (WrongSize o lent)
      ∷ carrying 2 (FirstBadRail o.bays o.ends)
      ∷ carrying 3 (LowestApart o)
      ∷ plain 4 (Crowded o.bays o.starts)
      ∷ carrying 5 (FirstBadPlace o.bays o.starts)
      ∷ carrying 6 (FirstBadPlace o.bays o.goals)
      ∷ []

  -- 7: "the procedure below fails": "the carrier that could not step"
  abbrev pub Stopped : ℕ → Type 0
  Stopped c = procedure (yard_of o) o.goals o.starts ≡ stuck c

  -- 8: the procedure's plan is longer than the lent list, or over 65,536: its length
  abbrev pub NoRoom : ℕ → ℕ → Type 0
  NoRoom lent v = (m : Made) × (procedure (yard_of o) o.goals o.starts ≡ planned m) × (v ≡ length m.moves) × TooLong lent (length m.moves)

  -- "Planning tests 1 to 8 by number."
  abbrev pub plan_rows : ℕ → List Row
  plan_rows lent = six 0 ++ (carrying 7 Stopped ∷ carrying 8 (NoRoom lent) ∷ [])

  module _ (plan : List ℕ) where
    -- "The check tests 1 to 6, then 9, 10."
    abbrev pub check_rows : List Row
    check_rows =
        six (length plan)
        ++ (carrying 9 (FirstIllegal (yard_of o) o.starts (crossings plan))
        ∷ carrying 10 (LowestAway o.goals (after o.starts (crossings plan)))
        ∷ [])

    -- "Slots do the same, then 8 for the slot list."
    abbrev pub slots_rows : ℕ → List Row
    slots_rows lent = check_rows ++ (no_room lent (length plan) ∷ [])

    -- "A report does 1 to 6, 9, 10, 11, ..": what every function that has marks tests first
    abbrev pub mark_rows : List ℕ → List Row
    mark_rows marks = check_rows ++ (plain 11 (BadMarks (crossings plan) marks) ∷ [])

    -- ".. 12; then a done name answers "already"; then 13"
    abbrev pub report_rows : List ℕ → ℕ → List Row
    report_rows marks name =
        mark_rows marks
        ++ (plain 12 (NotInPlan (crossings plan) name)
        ∷ plain already_number (mark marks name ≡ 1)
        ∷ carrying 13 (LowestUndone (crossings plan) marks name)
        ∷ [])
