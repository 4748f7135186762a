-- The two numbers of the agreement test.
-- Assumes nothing.
use Rattle.std.proofs.Math.Option.{none, some}
use Rattle.std.specs.Prelude.{ℕ}
use Rattle.bills.specs.Answering.{Agreement, agrees, differs, refused}
use Rattle.numbers.specs.Numbers.{number_of, value_of}

-- the agreement test's yes is told by the value 1, its no by 0
abbrev pub agreement_number : Agreement → ℕ
agreement_number agrees = number_of none
agreement_number differs = number_of none
agreement_number (refused r) = number_of (some r)

abbrev pub agreement_value : Agreement → ℕ
agreement_value agrees = value_of 1 none
agreement_value differs = value_of 0 none
agreement_value (refused r) = value_of 0 (some r)
