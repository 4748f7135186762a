-- What slots by either edition, and the timed plan, promise to C: the two numbers, and what stands in the lent list at the end.
-- Assumes nothing.
use Rattle.std.specs.Prelude.{Bool, not, List, ℕ, eqb, ltb, length, if◌then◌else◌}
use Rattle.std.proofs.Math.Option.{Option}
use Rattle.std.proofs.lemmas.List.Edits.{sets}
use Rattle.paper.specs.Order.{Order}
use Rattle.paper.specs.Docket.{granted, denied, room}
use Rattle.paper.specs.Text.{Text}
use Rattle.numbers.specs.Numbers.{verdict_number, verdict_value}
use Rattle.editions.specs.Editions.{slots_of, slots_of_end}
use Rattle.timed_handing.specs.Timed.{program_timed}
use Rattle.sejjekoru.specs.Statements.{TellsAndLeaves}

abbrev pub SlotsOfTell : Order → List ℕ → ℕ → List ℕ → ℕ → ℕ → List ℕ → Type 0
SlotsOfTell o crossed edition slots =
    let answer = slots_of o crossed edition (length slots) in
    TellsAndLeaves (verdict_number answer) (verdict_value answer) (slots_of_end o crossed edition slots)

-- a flag from C is yes where it is not 0
abbrev pub given : ℕ → Bool
given flag = not (eqb flag 0)

-- the print whole, with its length; or 8 with the bytes that it takes, and the list as it was
abbrev pub TimedTells : ℕ → Option Text → Option Text → Bool → List ℕ → ℕ → ℕ → List ℕ → Type 0
TimedTells edition map_file scenario_file short out =
    let t = program_timed edition short map_file scenario_file in
    let answer = if ltb (length out) (length t) then denied (room (length t)) else granted (length t) in
    TellsAndLeaves (verdict_number answer) (verdict_value answer) (if ltb (length out) (length t) then out else sets out 0 t)
