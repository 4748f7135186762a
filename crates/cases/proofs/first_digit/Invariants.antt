-- As long as no digit is met, the bytes from the first digit on are those from here.
use Rattle.std.proofs.Common.{◌≡◌, drop}
use Rattle.cases.specs.Numerals.{from_digit}
use Rattle.cases.proofs.first_digit.Given as goal

abbrev pub invariant-loop-i : goal.invariant-loop-i
invariant-loop-i l = from_digit (drop l.i l.text) ≡ from_digit (drop l.at l.text)
