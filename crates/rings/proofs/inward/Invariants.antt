use Rattle.std.proofs.Common.{◌<◌}
use Rattle.rings.specs.Ways.{Inside}
use Rattle.rings.proofs.Reading.{Walked}
use Rattle.rings.proofs.inward.Given as goal

abbrev pub invariant-loop-i : goal.invariant-loop-i
invariant-loop-i l = (l.u < l.n) × ((t : Inside l.n l.table l.rows l.d l.fn.x.0) → Walked t l.i l.u l.path)
