use Rattle.std.proofs.Common.{rules}
use Rattle.paper.specs.Basics.{◌or◌}
use Rattle.mark_order.proofs.touched.Goals as goal

pub returns-then-bays-from-eq1 : goal.returns-then-bays-from-eq1
unfolding ◌or◌
returns-then-bays-from-eq1 c = search rules

pub returns-else-bays-from-eq1 : goal.returns-else-bays-from-eq1
unfolding ◌or◌
returns-else-bays-from-eq1 c = search rules
