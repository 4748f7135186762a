use Rattle.std.proofs.Common.{◌∙◌}
use Rattle.occupancy.proofs.Standing.{left_out, joins}
use Rattle.occupancy.proofs.occupy.Goals as goal

pub returns-then-b-n : goal.returns-then-b-n
returns-then-b-n c = λ x. c.add.ensures x ∙ joins _ _ x _ c.if-b-n.true

pub returns-else-b-n : goal.returns-else-b-n
returns-else-b-n c = λ x. left_out _ _ x _ c.if-b-n.false
