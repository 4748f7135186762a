-- No such byte stands among the first i.
use Rattle.line_entries.proofs.Pieces.{Passed}
use Rattle.line_entries.proofs.cut.Given as goal

abbrev pub invariant-loop-i : goal.invariant-loop-i
invariant-loop-i l = Passed l.b l.text l.i
