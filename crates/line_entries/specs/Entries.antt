-- What a line of a printed plan says, and what a line of reports says. An action is read as the paper reads it (`read_action`).
-- Assumes nothing.
use Rattle.std.specs.Prelude.{Bool, true, false, ℕ, eqb, leb, length, get_or, if◌then◌else◌}
use Rattle.std.proofs.Math.Option.{Option, none, some}
use Rattle.paper.specs.Basics.{◌and◌}
use Rattle.paper.specs.Yard.{Crossing, pack}
use Rattle.paper.specs.Text.{Text, all, is_digit, value}
use Rattle.paper.specs.Print.{read_action}
use Rattle.line_entries.specs.declared.Entry.{Entry}
use Rattle.line_entries.specs.declared.Entry.TheVariants.{Number, Comment, Broken}

-- ## A line of a plan

-- 2^32 − 1 and 2^16 − 1
abbrev pub most_carrier : ℕ
most_carrier = 4294967295

abbrev pub most_bay : ℕ
most_bay = 65535

-- "carrier times 2^32, plus from times 2^16, plus to, both bays below 2^16", in 64 bits
unfoldable pub fits : Crossing → Bool
fits x = leb x.carrier most_carrier and leb x.from most_bay and leb x.to most_bay

-- a crossing by its number in a lent plan
unfoldable pub entry_of : Option Crossing → Entry
entry_of none = Broken
entry_of (some x) = if fits x then Number (pack x) else Broken

-- a line that begins with a semicolon is a comment; any other is an action
unfoldable pub plan_entry : Text → Entry
plan_entry l = if eqb (get_or l 0 0) 59 then Comment else entry_of (read_action l)

-- ## A line of reports

-- digits, at least one, leading zeros too
unfoldable pub numeral : Text → Bool
numeral d = leb 1 (length d) and all is_digit d

-- "one reported name a line", below 2^32
unfoldable pub report_entry : Text → Entry
report_entry l = if numeral l and leb (value l) most_carrier then Number (value l) else Broken

-- ## A line of either

-- reports, or a plan
abbrev pub entry_in : Bool → Text → Entry
entry_in false l = plan_entry l
entry_in true l = report_entry l
