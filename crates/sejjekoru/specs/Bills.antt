-- What the functions on a running record promise: those by value, and the exported ones, which are lent record and lines.
-- Assumes nothing.
use Rattle.std.specs.Prelude.{◌≡◌, List, ◌++◌, ℕ, ◌≤◌, length, take, drop, set}
use Rattle.paper.specs.Limits.{most_bays}
use Rattle.paper.specs.Order.{Order}
use Rattle.bills.specs.Answering.{opening, opened_record, opened_lines, agreement, billing, then_marks, then_record, then_lines}
use Rattle.bills.specs.declared.Line.{Line}
use Rattle.bills.specs.declared.Record.{Record}
use Rattle.held_lines.specs.Lines.{gathered}
use Rattle.held_lines.specs.declared.HeldLines.{HeldLines}
use Rattle.numbers.specs.Numbers.{number_of, value_of, report_number, report_value}
use Rattle.log_numbers.specs.Agreeing.{agreement_number, agreement_value}
use Rattle.numbers.specs.Tells.{Tells}
use Rattle.sejjekoru.specs.declared.ToldOpening.{ToldOpening}
use Rattle.sejjekoru.specs.declared.ToldReport.{ToldReport}

module _ (o : Order) (plan marks : List ℕ) where
  -- ## Lent

  pub record OpenTells (rec : Record) (lines : List Line) (number value : ℕ) (rec' : Record) (lines' : List Line) : Type 0 where
    pub tells : Tells (number_of (opening o plan marks (length lines))) (value_of 0 (opening o plan marks (length lines))) number value
    pub record_then : rec' ≡ opened_record o plan marks rec (length lines)
    pub lines_then : lines' ≡ opened_lines o plan marks lines

  abbrev pub AgreesTells : Record → List Line → ℕ → ℕ → Type 0
  AgreesTells rec lines =
      let answer = agreement o plan marks rec lines in
      Tells (agreement_number answer) (agreement_value answer)

  pub record ReportBilledTells (name : ℕ) (rec : Record) (lines : List Line) (number value : ℕ) (marks' : List ℕ) (rec' : Record) (lines' : List Line) : Type 0 where
    pub tells : Tells (report_number (billing o plan marks rec lines name)) (report_value (billing o plan marks rec lines name)) number value
    pub marks_then : marks' ≡ then_marks o plan marks rec lines name
    pub record_then : rec' ≡ then_record o plan marks rec lines name
    pub lines_then : lines' ≡ then_lines o plan marks rec lines name

  -- ## By value: the same of every list of lines that is held so

  pub record OpenOn (rec : Record) (count : ℕ) (r : ToldOpening) (value : ℕ) : Type 0 where
    pub tells : Tells (number_of (opening o plan marks count)) (value_of 0 (opening o plan marks count)) r.number value
    pub record_then : r.record ≡ opened_record o plan marks rec count
    pub few : r.held.count ≤ most_bays
    pub room : r.held.count ≤ count
    pub whole : length r.held.lines ≡ most_bays
    pub lines_then : (lines : List Line) → length lines ≡ count
        → take r.held.count r.held.lines ++ drop r.held.count lines ≡ opened_lines o plan marks lines

  abbrev pub AgreesOn : Record → HeldLines → ℕ → ℕ → Type 0
  AgreesOn rec held number value = (lines : List Line) → held ≡ gathered lines → AgreesTells rec lines number value

  abbrev pub ReportOn : ℕ → Record → HeldLines → ToldReport → ℕ → List ℕ → Type 0
  ReportOn name rec held r value marks' =
      (lines : List Line) → held ≡ gathered lines → ReportBilledTells name rec lines r.number value marks' r.record (set lines r.at r.line)
