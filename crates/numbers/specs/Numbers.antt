-- The two numbers by which C is told an answer: document 01's number, 0 where it is accepted, and the value that goes with it.
-- Assumes nothing.
use Rattle.std.proofs.Math.Option.{Option, none, some, get_or}
use Rattle.std.specs.Prelude.{ℕ}
use Rattle.paper.specs.Docket.{Refusal, number, carried, Verdict, granted, denied}
use Rattle.paper.specs.Answers.{Report, accept, already, refuse}

-- the refusal's number in the table, 0 where there is none
abbrev pub number_of : Option Refusal → ℕ
number_of none = 0
number_of (some r) = number r

-- what the refusal carries, 0 where that is nothing; where there is no refusal, the length written
abbrev pub value_of : ℕ → Option Refusal → ℕ
value_of written none = written
value_of written (some r) = get_or (carried r) 0

-- of a function that hands back a number
abbrev pub verdict_number : Verdict → ℕ
verdict_number (granted n) = number_of none
verdict_number (denied r) = number_of (some r)

abbrev pub verdict_value : Verdict → ℕ
verdict_value (granted n) = value_of n none
verdict_value (denied r) = value_of 0 (some r)

-- "already" is no refusal and has no number in the table
abbrev pub already_number : ℕ
already_number = 100

abbrev pub report_number : Report → ℕ
report_number accept = number_of none
report_number already = already_number
report_number (refuse r) = number_of (some r)

-- a report writes no length
abbrev pub report_value : Report → ℕ
report_value accept = value_of 0 none
report_value already = value_of 0 none
report_value (refuse r) = value_of 0 (some r)
