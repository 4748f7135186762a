-- What the functions on the bytes of files promise: the program whole, the print of any plan, and reading a printed plan and reported names.
-- What is handed over is handed over whole, or the list stays as it was and the number is 8.
-- Assumes nothing.
use Rattle.std.specs.Prelude.{Bool, true, false, not, List, ℕ, eqb, length}
use Rattle.paper.specs.Text.{Text}
use Rattle.filing.specs.Filing.{file_of}
use Rattle.handing.specs.Handing.{fitted, handed}
use Rattle.handing.specs.Plans.{plan_printed, plan_print_end}
use Rattle.print_room.specs.Whole.{print_for}
use Rattle.readback.specs.Entries.{read_entries}
use Rattle.readback.specs.Files.{plan_verdict, plan_end, reports_verdict, reports_end}
use Rattle.numbers.specs.Numbers.{verdict_number, verdict_value}
use Rattle.sejjekoru.specs.Statements.{TellsAndLeaves}

-- C's yes and no: 0 is no
abbrev pub is_set : ℕ → Bool
is_set n = not (eqb n 0)

-- a text, for a list that is lent
abbrev pub TextTells : Text → List ℕ → ℕ → ℕ → List ℕ → Type 0
TextTells t out =
    let answer = handed (length t) (length out) in
    TellsAndLeaves (verdict_number answer) (verdict_value answer) (fitted t out)

-- all that the program prints for two files, each with whether it could be read
abbrev pub ProgramTells : Text → ℕ → Text → ℕ → ℕ → List ℕ → ℕ → ℕ → List ℕ → Type 0
ProgramTells map map_read scenario scenario-read short out =
    TextTells (print_for (is_set short) (file_of (is_set map_read) map) (file_of (is_set scenario-read) scenario)) out

-- the print of a plan, into a list that is lent
abbrev pub PrintPlanTells : List ℕ → List ℕ → ℕ → ℕ → List ℕ → Type 0
PrintPlanTells plan out =
    let answer = plan_printed plan (length out) in
    TellsAndLeaves (verdict_number answer) (verdict_value answer) (plan_print_end plan out)

-- a printed plan, read into a list that is lent
abbrev pub ReadPlanTells : Text → List ℕ → ℕ → ℕ → List ℕ → Type 0
ReadPlanTells file plan =
    let answer = plan_verdict (read_entries false file) (length plan) in
    TellsAndLeaves (verdict_number answer) (verdict_value answer) (plan_end (read_entries false file) plan)

-- reported names, read in the same way
abbrev pub ReadReportsTells : Text → List ℕ → ℕ → ℕ → List ℕ → Type 0
ReadReportsTells file names =
    let answer = reports_verdict (read_entries true file) (length names) in
    TellsAndLeaves (verdict_number answer) (verdict_value answer) (reports_end (read_entries true file) names)
