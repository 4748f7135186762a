-- The lines of k rails are written, and what is left of the ends makes the whole.
use Rattle.std.proofs.Common.{◌*◌}
use Rattle.survey_lines.proofs.Parts.{Written}
use Rattle.survey_lines.proofs.rails_from.Given as goal

abbrev pub invariant-loop-k : goal.invariant-loop-k
invariant-loop-k l = Written l.rails l.initial.out l.at (2 * l.k) l.out l.end
