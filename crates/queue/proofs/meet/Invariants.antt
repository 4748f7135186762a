use Rattle.queue.specs.Meeting.{Meets}
use Rattle.queue.proofs.Words.{new_below}
use Rattle.queue.proofs.meet.Given as goal

abbrev pub invariant-loop-i : goal.invariant-loop-i
invariant-loop-i l =
    Meets (new_below l.table l.initial.seen l.a l.i) l.a l.count l.initial.seen l.initial.met l.initial.before l.seen l.met l.before l.c
