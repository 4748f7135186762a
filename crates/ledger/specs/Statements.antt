-- What opening, the agreement test and a report promise, on record and lines by value. Lines come as they are held: the promises read the first `count` of
-- them, and so are of whatever is handed in.
-- Assumes nothing.
use Rattle.std.specs.Prelude.{◌≡◌, List, [], ℕ, length, if◌then◌else◌}
use Rattle.paper.specs.Basics.{if_some◌then◌else◌}
use Rattle.paper.specs.Yard.{crossings, named}
use Rattle.paper.specs.Order.{Order}
use Rattle.paper.specs.Answers.{Report, accepts}
use Rattle.docket.specs.Reading.{refusal_of}
use Rattle.marks.specs.Reading.{report_of}
use Rattle.checker.specs.Reading.{checked_of}
use Rattle.bills.specs.Billing.{lines_of, charged, no_line}
use Rattle.bills.specs.Answering.{opening, opened_record, billing, then_marks, then_record}
use Rattle.bills.specs.Answering as told
use Rattle.bills.specs.declared.Line.{Line}
use Rattle.bills.specs.declared.Record.{Record}
use Rattle.held_lines.specs.Lines.{gathered, line_at, lines_held}
use Rattle.held_lines.specs.declared.HeldLines.{HeldLines}
use Rattle.settling.specs.declared.Settlement.{Settlement}
use Rattle.ledger.specs.declared.Agreement.{Agreement}
use Rattle.ledger.specs.declared.Agreement.TheVariants as test
use Rattle.ledger.specs.declared.Opening.{Opening}

abbrev pub agreement_of : Agreement → told.Agreement
agreement_of test.Agrees = told.agrees
agreement_of test.Differs = told.differs
agreement_of (test.Refused r) = told.refused (refusal_of r)

module _ (o : Order) (plan marks : List ℕ) where
  -- the lines that opening builds: none where it is refused
  abbrev pub built : ℕ → List Line
  built count = if_some opening o plan marks count then (λ r. []) else lines_of (length o.starts) (crossings plan) marks

  pub record OpenSays (rec : Record) (count : ℕ) (r : Opening) : Type 0 where
    pub answers : checked_of r.answer ≡ opening o plan marks count
    pub leaves : r.running ≡ opened_record o plan marks rec count
    pub holds : r.held ≡ gathered (built count)

  module _ (name : ℕ) (rec : Record) (held : HeldLines) where
    abbrev billed : Report
    billed = billing o plan marks rec (lines_held held) name

    -- the one line that changes, with its place: past the last line where none does, and then an empty one
    abbrev pub place_then : ℕ
    place_then = if accepts billed then (named (crossings plan) name).carrier else held.count

    abbrev pub then_line : Line
    then_line = if accepts billed then charged (line_at held (named (crossings plan) name).carrier) name else no_line

    pub record BillingSays (r : Settlement) (marks' : List ℕ) : Type 0 where
      pub answers : report_of r.answer ≡ billing o plan marks rec (lines_held held) name
      pub marks_then : marks' ≡ then_marks o plan marks rec (lines_held held) name
      pub leaves : r.running ≡ then_record o plan marks rec (lines_held held) name
      pub place : r.at ≡ place_then
      pub line_then : r.line ≡ then_line
