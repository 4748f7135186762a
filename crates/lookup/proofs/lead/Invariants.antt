-- The room holds i bays, and u is the next; they begin the path if the walk goes on to e.
use Rattle.std.proofs.Common.{◌<◌}
use Rattle.lookup.specs.Told.{Distant}
use Rattle.lookup.proofs.Leading.{Leading}
use Rattle.lookup.proofs.lead.Given as goal

abbrev pub invariant-loop-i : goal.invariant-loop-i
invariant-loop-i l = record {
  inside : l.u < l.n;
  leading : (t : Distant l.n l.table l.held l.fn.x.0 l.e.0 l.d) → Leading t l.i l.u l.path;
}
