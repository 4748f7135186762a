use Rattle.rings.specs.Ways.{Ended}
use Rattle.rings.proofs.Narrowing.{Narrowing}
use Rattle.rings.proofs.narrow.Given as goal

abbrev pub invariant-loop-i : goal.invariant-loop-i
invariant-loop-i l = (t : Ended l.n l.table l.initial.rows l.d l.last) → Narrowing t l.i l.kept l.rows
