-- What is left of both lists decides.
use Rattle.same_lines.proofs.Comparing.{Alike}
use Rattle.same_lines.proofs.same_lines.Given as goal

abbrev pub invariant-loop-c : goal.invariant-loop-c
invariant-loop-c l = Alike l.lent l.a l.fresh l.b l.c
