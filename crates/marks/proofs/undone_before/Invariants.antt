use Rattle.paper.specs.Yard.{crossings}
use Rattle.paper.proofs.Members.{Passed}
use Rattle.docket.specs.Reading.{crossing_of}
use Rattle.marks.proofs.Telling.{waits_for}
use Rattle.marks.proofs.undone_before.Given as goal

-- none that was passed keeps x waiting
abbrev pub invariant-loop-e : goal.invariant-loop-e
invariant-loop-e l = Passed (waits_for (crossings l.plan) l.marks (crossing_of l.x)) l.name l.name l.e
