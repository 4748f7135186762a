use Rattle.std.proofs.Common.{ap, eq-eqb, ne_eqb}
use mathlib.Core.Bool.{not}
use Rattle.paper.specs.Basics.{◌and◌}
use Rattle.begun.specs.Fresh.{is_fresh}
use Rattle.begun.proofs.is_fresh.Goals as goal

pub returns-then-marks-plan : goal.returns-then-marks-plan
unfolding is_fresh ◌and◌
returns-then-marks-plan c = rw (eq-eqb _ _ c.if-marks-plan.true) (ap not c.any_set.ensures)

pub returns-else-marks-plan : goal.returns-else-marks-plan
unfolding is_fresh ◌and◌
returns-else-marks-plan c = rw (ne_eqb _ _ c.if-marks-plan.false)
