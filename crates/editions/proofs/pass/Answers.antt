-- `editions::pass` meets its contract: 2 is the train slots, and anything else the first edition.
use Rattle.std.proofs.Common.{eq-eqb, ne_eqb}
use Rattle.paper.specs.Yard.{crossings}
use Rattle.editions.proofs.Saying.{by_two, by_one}
use Rattle.editions.proofs.pass.Goals as goal

pub returns-then-edition-eq2 : goal.returns-then-edition-eq2
returns-then-edition-eq2 c = let s = c.args in rw (by_two s.edition (crossings s.plan.now) (eq-eqb _ _ c.if-edition-eq2.true)) c.train_pass.ensures

pub returns : goal.returns
returns c = let s = c.args in rw (by_one s.edition (crossings s.plan.now) (ne_eqb _ _ c.if-edition-eq2.false)) c.slot_pass.ensures
