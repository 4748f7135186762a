use Rattle.std.proofs.Common.{rules, tests}
use Rattle.paper.specs.Basics.{◌or◌}
use Rattle.paper.specs.Map.{bay_letter}
use Rattle.sides.proofs.is_bay.Goals as goal

pub returns-then-b-eq46 : goal.returns-then-b-eq46
unfolding bay_letter ◌or◌
returns-then-b-eq46 c = search (tests, rules)

pub returns-else-b-eq46 : goal.returns-else-b-eq46
unfolding bay_letter ◌or◌
returns-else-b-eq46 c = search (tests, rules)
