-- Both cells have to be bays.
use Rattle.std.proofs.Common.{arith}
use Rattle.std.proofs.lemmas.Grind.{common_steps}
use Rattle.paper.specs.Basics.{◌and◌}
use Rattle.paper.specs.Bytes.{carrier_of}
use Rattle.paper.specs.Scenario.{start_and_goal}
use Rattle.scenario.proofs.carrier_of.Goals as goal

pub returns-in_err-start : goal.returns-in_err-start
unfolding carrier_of start_and_goal ◌and◌
returns-in_err-start c = rw c.from_residual.ensures (grind (arith, common_steps))

pub returns-in_err-goal : goal.returns-in_err-goal
unfolding carrier_of start_and_goal ◌and◌
returns-in_err-goal c = rw c.from_residual-in_err-goal.ensures (grind (arith, common_steps))

pub returns-then-p : goal.returns-then-p
unfolding carrier_of start_and_goal ◌and◌
returns-then-p c = grind (arith, common_steps)

pub returns : goal.returns
unfolding carrier_of start_and_goal ◌and◌
returns c = grind (arith, common_steps)
