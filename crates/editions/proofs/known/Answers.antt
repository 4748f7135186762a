-- `editions::known` meets its contract: 1 and 2 are the editions.
use Rattle.editions.proofs.Saying.{known-one, known-else}
use Rattle.editions.proofs.known.Goals as goal

pub returns-then-edition-eq1 : goal.returns-then-edition-eq1
returns-then-edition-eq1 c = known-one _ c.if-edition-eq1.true

pub returns : goal.returns
returns c = known-else _ c.if-edition-eq1.false
