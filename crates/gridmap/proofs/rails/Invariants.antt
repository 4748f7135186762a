-- The rails of the cells passed are written, at most four ends each.
use Rattle.std.proofs.Common.{◌*◌, ◌≤◌}
use Rattle.stores.specs.Writing.{Wrote}
use Rattle.gridmap.specs.Cells.{rails_to}
use Rattle.gridmap.proofs.rails.Given as goal

abbrev pub invariant-loop-i : goal.invariant-loop-i
invariant-loop-i l = record {
  wrote : Wrote l.initial.ends 0 (rails_to l.cells l.size l.width l.i) l.ends l.at;
  short : l.at ≤ 4 * l.i;
}
