use Rattle.std.proofs.Common.{rules}
use lib.ListN.{length-map}
use Rattle.paper.specs.Basics.{◌or◌}
use Rattle.paper.specs.Yard.{unpack}
use Rattle.paper.specs.Docket.{bad_marks}
use Rattle.mark_order.proofs.bad_marks.Goals as goal

pub returns-then-odd_mark : goal.returns-then-odd_mark
unfolding bad_marks ◌or◌
returns-then-odd_mark c = rw (length-map c.args.plan.now unpack) (search rules)

pub returns-else-odd_mark : goal.returns-else-odd_mark
unfolding bad_marks ◌or◌
returns-else-odd_mark c = rw (length-map c.args.plan.now unpack) (search rules)
