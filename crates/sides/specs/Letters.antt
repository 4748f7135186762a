-- Letters of a row, and sides in digits, as the code reads them.
-- Assumes nothing.
use Rattle.std.specs.Prelude.{Bool, ℕ, zero, suc, ◌-◌, leb, if◌then◌else◌}
use Rattle.std.proofs.Math.Option.{Option, none, some}
use Rattle.paper.specs.Basics.{◌and◌, ◌or◌, when}
use Rattle.paper.specs.Text.{Text, is_digit, value, is_number}
use Rattle.paper.specs.Map.{bay_letter, wall_letter, most_side}

abbrev pub letter : ℕ → Bool
letter b = bay_letter b or wall_letter b

unfoldable pub digit_of : ℕ → ℕ
digit_of b = if is_digit b then b - 48 else 100

-- a side, with 0 for none
unfoldable pub side_of : ℕ → Option ℕ
side_of zero = none
side_of (suc n) = some (suc n)

-- what stands behind the word
unfoldable pub side_in : Text → Option ℕ
side_in d = when (is_number 2 d and leb 1 (value d) and leb (value d) most_side) (value d)
