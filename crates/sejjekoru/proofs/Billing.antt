-- What the covered functions say gives what the thin functions say, once the lines are gathered and the one line is entered.
-- Assumes nothing.
use mathlib.Core.Path.{refl}
use mathlib.Core.List.{List}
use Prim.Native.Nat.{ℕ}
use lib.ListN.{set}
use Rattle.paper.specs.Order.{Order}
use Rattle.bills.specs.declared.Line.{Line}
use Rattle.bills.specs.declared.Record.{Record}
use Rattle.held_lines.specs.Lines.{gathered}
use Rattle.sejjekoru.specs.declared.ToldReport.{ToldReport}
use Rattle.sejjekoru.specs.Bills.{AgreesOn, AgreesTells, ReportOn, ReportBilledTells}

module _ (o : Order) (plan marks : List ℕ) where
  pub agrees-says : (rec : Record) (lines : List Line) (number value : ℕ) → AgreesOn o plan marks rec (gathered lines) number value → AgreesTells o plan marks rec lines number value
  agrees-says rec lines number value on = on lines refl

  pub report-says : (name : ℕ) (rec : Record) (lines : List Line) (r : ToldReport) (value : ℕ) (marks' : List ℕ)
      → ReportOn o plan marks name rec (gathered lines) r value marks'
      → ReportBilledTells o plan marks name rec lines r.number value marks' r.record (set lines r.at r.line)
  report-says name rec lines r value marks' on = on lines refl
