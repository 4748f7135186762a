-- The lines of the first c carriers stand at their places.
use Rattle.std.proofs.Common.{◌≡◌}
use Rattle.held_lines.specs.Lines.{listed}
use Rattle.held_lines.proofs.Laid.{read_to}
use Rattle.held_lines.proofs.list_lines.Given as goal

abbrev pub invariant-loop-c : goal.invariant-loop-c
invariant-loop-c l = l.lines ≡ read_to (listed l.count l.billed l.last) l.c
