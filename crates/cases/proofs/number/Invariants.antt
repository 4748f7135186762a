-- What was read and what is read from here on make the number.
use Rattle.cases.proofs.Numerals.{Reading}
use Rattle.cases.proofs.number.Given as goal

abbrev pub invariant-loop-i : goal.invariant-loop-i
invariant-loop-i l = Reading l.text l.at l.i l.value
