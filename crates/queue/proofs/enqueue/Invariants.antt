use Rattle.std.proofs.Common.{length}
use Rattle.queue.specs.Meeting.{in_word}
use Rattle.queue.proofs.Words.{Filling}
use Rattle.queue.proofs.enqueue.Given as goal

abbrev pub invariant-loop-left : goal.invariant-loop-left
invariant-loop-left l = Filling l.i l.word l.a l.count l.initial.met l.initial.before l.met l.before l.left l.c

abbrev pub decreases-loop-left : goal.decreases-loop-left
decreases-loop-left l = length (in_word l.i l.left)
