-- What is left of the file reads, after the due line and from its number on, as the whole does.
use Rattle.std.proofs.Common.{◌≡◌, ◌+◌, ◌-◌, ◌≤◌, length, drop}
use Rattle.paper.specs.Text.{lines, read_lines}
use Rattle.paper.specs.Map.{read_map}
use Rattle.sides.specs.Layout.{sides_read, line_taken, due_end}
use Rattle.sides.proofs.read.Given as goal

abbrev pub invariant-loop-stop : goal.invariant-loop-stop
invariant-loop-stop l = record {
  within : l.at ≤ length l.file;
  counted : l.n ≤ l.at + 1;
  reads : read_lines line_taken due_end l.n l.due (lines (drop l.at l.file)) ≡ sides_read (read_map l.file);
}

abbrev pub decreases-loop-stop : goal.decreases-loop-stop
decreases-loop-stop l = length l.file - l.at
