-- What opening, the agreement test and a report on record and lines answer, in which order they test, and what they leave. A report on record and
-- lines answers what a report does.
-- Assumes nothing.
use Rattle.std.specs.Prelude.{Bool, true, false, not, List, [], ◌∷◌, ℕ, eqb, length, get_or, set, if◌then◌else◌}
use Rattle.std.proofs.Math.Option.{Option}
use Rattle.paper.specs.Basics.{if_some◌then◌else◌, ◌and◌, or_else, when}
use Rattle.paper.specs.Yard.{crossings, named}
use Rattle.paper.specs.Order.{Order}
use Rattle.paper.specs.Dependence.{slots}
use Rattle.paper.specs.Docket.{Refusal, room, disagrees, no_11}
use Rattle.paper.specs.Answers.{Report, refuse, accepts, tell, check}
use Rattle.bills.specs.Billing.{record_of, lines_of, posted, entered}
use Rattle.bills.specs.declared.Record.{Record}
use Rattle.bills.specs.declared.Line.{Line}

-- ## Whether two records, and two lists of lines, are the same

unfoldable pub same_numbers : List ℕ → List ℕ → Bool
same_numbers [] [] = true
same_numbers [] (b ∷ bs) = false
same_numbers (a ∷ as') [] = false
same_numbers (a ∷ as') (b ∷ bs) = eqb a b and same_numbers as' bs

abbrev pub same_record : Record → Record → Bool
same_record a b = same_numbers a.at b.at and (eqb a.done b.done and eqb a.highest b.highest)

abbrev pub is_same_line : Line → Line → Bool
is_same_line a b = eqb a.carrier b.carrier and (eqb a.billed b.billed and eqb a.last b.last)

unfoldable pub same_lines : List Line → List Line → Bool
same_lines [] [] = true
same_lines [] (b ∷ bs) = false
same_lines (a ∷ as') [] = false
same_lines (a ∷ as') (b ∷ bs) = is_same_line a b and same_lines as' bs

-- ## The answers

-- the agreement test
pub data Agreement : Type 0 where
  agrees differs : Agreement
  refused : Refusal → Agreement

module _ (o : Order) (plan : List ℕ) where
  abbrev fresh_record : List ℕ → Record
  fresh_record marks = record_of o.starts (crossings plan) marks

  abbrev fresh_lines : List ℕ → List Line
  fresh_lines marks = lines_of (length o.starts) (crossings plan) marks

  -- "the refusals up to 11"
  unfoldable pub up_to_eleven : List ℕ → Option Refusal
  up_to_eleven marks = or_else (check o plan) (no_11 (crossings plan) marks)

  -- "otherwise opening answers 8 carrying k, after 11", for a list of so many lines
  unfoldable pub opening : List ℕ → ℕ → Option Refusal
  opening marks lent = or_else (up_to_eleven marks) (when (not (eqb lent (length o.starts))) (room (length o.starts)))

  -- "opening builds both from plan and marks"
  unfoldable pub opened_record : List ℕ → Record → ℕ → Record
  opened_record marks rec lent = if_some opening marks lent then (λ r. rec) else fresh_record marks

  unfoldable pub opened_lines : List ℕ → List Line → List Line
  opened_lines marks lines = if_some opening marks (length lines) then (λ r. lines) else fresh_lines marks

  -- "record and lines equal what plan, start and marks give worked out afresh"; a list of another length does not
  unfoldable pub agree : List ℕ → Record → List Line → Bool
  agree marks rec lines = same_record rec (fresh_record marks) and same_lines lines (fresh_lines marks)

  -- "a separate test, after the refusals up to 11, answers yes exactly if all agree"
  unfoldable pub agreement : List ℕ → Record → List Line → Agreement
  agreement marks rec lines =
      let yes = if agree marks rec lines then agrees else differs in
      if_some up_to_eleven marks then refused else yes

  -- "19, record disagrees, after 11 and before 12"
  abbrev pub no_19 : List ℕ → Record → List Line → Option Refusal
  no_19 marks rec lines = when (not (agree marks rec lines)) disagrees

  unfoldable pub billing : List ℕ → Record → List Line → ℕ → Report
  billing marks rec lines name =
      let rest = tell (crossings plan) marks name in
      if_some or_else (up_to_eleven marks) (no_19 marks rec lines) then refuse else rest

  -- Only acceptance changes anything: "refusals and "already" change none of them".
  unfoldable pub then_marks : List ℕ → Record → List Line → ℕ → List ℕ
  then_marks marks rec lines name = if accepts (billing marks rec lines name) then set marks name 1 else marks

  unfoldable pub then_record : List ℕ → Record → List Line → ℕ → Record
  then_record marks rec lines name =
      let slot = get_or (slots (crossings plan)) name 0 in
      if accepts (billing marks rec lines name) then posted rec (named (crossings plan) name) slot else rec

  unfoldable pub then_lines : List ℕ → Record → List Line → ℕ → List Line
  then_lines marks rec lines name =
      if accepts (billing marks rec lines name) then entered lines (named (crossings plan) name) name else lines
