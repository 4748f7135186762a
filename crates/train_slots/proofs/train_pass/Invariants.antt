use Rattle.paper.specs.Yard.{crossings}
use Rattle.trains.specs.Slots.{train_slots}
use Rattle.slots.proofs.Writing.{Writing}
use Rattle.train_slots.proofs.Passing.{still}
use Rattle.train_slots.proofs.train_pass.Given as goal

abbrev pub invariant-loop-i : goal.invariant-loop-i
invariant-loop-i l = Writing (train_slots (crossings l.plan)) (still l.plan) l.plan l.initial.out l.out l.carriers l.left l.i
