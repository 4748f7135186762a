-- No LF stands from `at` up to i.
use Rattle.std.proofs.Common.{◌≡◌, true}
use Rattle.lines.specs.Lines.{part, no_lf}
use Rattle.lines.proofs.line_end.Given as goal

abbrev pub invariant-loop-i : goal.invariant-loop-i
invariant-loop-i l = no_lf (part l.file l.at l.i) ≡ true
