-- What a report on a record and lines that agree asks and promises.
-- Assumes nothing.
use Rattle.std.specs.Prelude.{◌≡◌, true, false, List, ℕ, ◌≤◌, ◌<◌, length, get_or}
use Rattle.paper.specs.Limits.{most_bays}
use Rattle.paper.specs.Yard.{crossings, named, most_crossings}
use Rattle.paper.specs.Dependence.{slots}
use Rattle.paper.specs.OnePass.{Fits}
use Rattle.paper.specs.Answers.{accepts, marks_after}
use Rattle.marks.specs.Reading.{report_of, told_in_order}
use Rattle.marks.specs.declared.Reported.TheVariants.{Accepted}
use Rattle.bills.specs.Billing.{posted, charged, no_line}
use Rattle.bills.specs.declared.Record.{Record}
use Rattle.held_lines.specs.Lines.{line_at}
use Rattle.held_lines.specs.declared.HeldLines.{HeldLines}
use Rattle.settling.specs.declared.Settlement.{Settlement}

-- the step asks that name, carrier and counters have their places
pub record PostAsks (plan : List ℕ) (name : ℕ) (rec : Record) (held : HeldLines) : Type 0 where
  pub inside : name < length plan
  pub short : length plan ≤ most_crossings
  pub fits : Fits most_bays most_bays plan
  pub not_all : rec.done < 4294967295
  pub not_full : (line_at held (named (crossings plan) name).carrier).billed < 4294967295

pub record PostSays (plan : List ℕ) (name : ℕ) (rec : Record) (held : HeldLines) (r : Settlement) : Type 0 where
  pub answers : r.answer ≡ Accepted
  pub leaves : r.running ≡ posted rec (named (crossings plan) name) (get_or (slots (crossings plan)) name 0)
  pub place : r.at ≡ (named (crossings plan) name).carrier
  pub line_then : r.line ≡ charged (line_at held (named (crossings plan) name).carrier) name

pub record SettleAsks (plan marks : List ℕ) (rec : Record) (held : HeldLines) : Type 0 where
  pub even : length marks ≡ length plan
  pub short : length plan ≤ most_crossings
  pub fits : Fits most_bays most_bays plan
  pub not_all : rec.done < 4294967295
  pub not_full : (name : ℕ) → name < length plan → (line_at held (named (crossings plan) name).carrier).billed < 4294967295

-- from 12 on: acceptance changes the mark, the record and one line; any other answer changes nothing, the place is past the last line, and the line is empty
pub record SettleSays (plan marks : List ℕ) (name : ℕ) (rec : Record) (held : HeldLines) (r : Settlement) (marks' : List ℕ) : Type 0 where
  pub answers : report_of r.answer ≡ told_in_order (crossings plan) marks name
  pub marks_then : marks' ≡ marks_after marks name (told_in_order (crossings plan) marks name)
  pub changed : accepts (told_in_order (crossings plan) marks name) ≡ true
      → (r.running ≡ posted rec (named (crossings plan) name) (get_or (slots (crossings plan)) name 0))
      × (r.at ≡ (named (crossings plan) name).carrier)
      × (r.line ≡ charged (line_at held (named (crossings plan) name).carrier) name)
  pub unchanged : accepts (told_in_order (crossings plan) marks name) ≡ false → (r.running ≡ rec) × (r.at ≡ held.count) × (r.line ≡ no_line)
