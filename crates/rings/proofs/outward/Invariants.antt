use Rattle.std.proofs.Common.{◌<◌}
use Rattle.rings.specs.Ways.{Outside}
use Rattle.rings.proofs.Narrowing.{Going}
use Rattle.rings.proofs.outward.Given as goal

abbrev pub invariant-loop-i : goal.invariant-loop-i
invariant-loop-i l = (l.u < l.n) × ((t : Outside l.n l.table l.rows l.d l.fn.x.0) → Going t l.i l.u l.path)
