-- The lines of the crossings passed are written, at most 80 bytes each.
use Rattle.std.proofs.Common.{◌*◌, ◌≤◌, length, take}
use Rattle.stores.specs.Writing.{Wrote}
use Rattle.printing.specs.Parts.{action_lines}
use Rattle.printing.proofs.actions.Given as goal

abbrev pub invariant-loop-x : goal.invariant-loop-x
invariant-loop-x l = record {
  wrote : Wrote l.initial.out 0 (action_lines (take l.x-index l.plan)) l.out l.at;
  short : length (action_lines (take l.x-index l.plan)) ≤ 80 * l.x-index;
}
