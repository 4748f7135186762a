-- What sejjekoru_reverse promises for every list and every room: its two numbers and what stands in the room at the end.
-- Assumes nothing.
use Rattle.std.specs.Prelude.{List, ℕ, length}
use Rattle.reversing.specs.Reversing.{reversing, reversing_end}
use Rattle.numbers.specs.Numbers.{verdict_number, verdict_value}
use Rattle.sejjekoru.specs.Statements.{TellsAndLeaves}

abbrev pub ReverseTells : List ℕ → List ℕ → ℕ → ℕ → List ℕ → Type 0
ReverseTells list out =
    let answer = reversing list (length out) in
    TellsAndLeaves (verdict_number answer) (verdict_value answer) (reversing_end list out)
