use Rattle.std.proofs.Common.{arith}
use Rattle.std.proofs.lemmas.Grind.{common_steps}
use Rattle.paper.specs.Basics.{◌and◌}
use Rattle.paper.specs.Bytes.{field_past}
use Rattle.fields.proofs.field_past.Goals as goal

pub returns : goal.returns
unfolding field_past ◌and◌
returns c = grind (arith, common_steps)
