-- The lines of the crossings passed are written, at most 100 bytes each.
use Rattle.std.proofs.Common.{◌*◌, ◌≤◌, length, take}
use Rattle.stores.specs.Writing.{Wrote}
use Rattle.timed_print.specs.Lines.{lines_of}
use Rattle.timed_print.proofs.lines.Given as goal

abbrev pub invariant-loop-i : goal.invariant-loop-i
invariant-loop-i l = record {
  wrote : Wrote l.initial.out 0 (lines_of (take l.i l.slots) (take l.i l.plan)) l.out l.at;
  short : length (lines_of (take l.i l.slots) (take l.i l.plan)) ≤ 100 * l.i;
}
