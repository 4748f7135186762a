use Rattle.paper.specs.Yard.{crossings}
use Rattle.paper.specs.Dependence.{slots}
use Rattle.slots.proofs.Passing.{still}
use Rattle.slots.proofs.Writing.{Writing}
use Rattle.slots.proofs.slot_pass.Given as goal

abbrev pub invariant-loop-i : goal.invariant-loop-i
invariant-loop-i l = Writing (slots (crossings l.plan)) (still l.plan) l.plan l.initial.out l.out l.carriers l.bays l.i
