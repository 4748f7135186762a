use Rattle.std.proofs.Common.{arith}
use Rattle.std.proofs.lemmas.Grind.{common_steps}
use Rattle.paper.specs.Basics.{◌and◌}
use Rattle.paper.specs.Bytes.{well_field}
use Rattle.fields.proofs.well_field.Goals as goal

pub returns-then-i-eq1 : goal.returns-then-i-eq1
unfolding well_field ◌and◌
returns-then-i-eq1 c = grind (arith, common_steps)

pub returns-then-i-eq8 : goal.returns-then-i-eq8
unfolding well_field ◌and◌
returns-then-i-eq8 c = grind (arith, common_steps)

pub returns-then-number_field : goal.returns-then-number_field
unfolding well_field ◌and◌
returns-then-number_field c = grind (arith, common_steps)

pub returns-else-number_field : goal.returns-else-number_field
unfolding well_field ◌and◌
returns-else-number_field c = grind (arith, common_steps)

pub returns-then-number_field-2 : goal.returns-then-number_field-2
unfolding well_field ◌and◌
returns-then-number_field-2 c = grind (arith, common_steps)

pub returns-else-number_field-2 : goal.returns-else-number_field-2
unfolding well_field ◌and◌
returns-else-number_field-2 c = grind (arith, common_steps)

pub returns-then-i-lt8 : goal.returns-then-i-lt8
unfolding well_field ◌and◌
returns-then-i-lt8 c = grind (arith, common_steps)

pub returns : goal.returns
unfolding well_field ◌and◌
returns c = grind (arith, common_steps)
