use Rattle.std.proofs.Common.{◌≡◌, ◌<◌, ◌+◌, ◌-◌, [], take, drop}
use Rattle.words.specs.Sets.{span}
use Rattle.queue.specs.Meeting.{back}
use Rattle.queue.proofs.trace.Given as goal

abbrev pub invariant-loop-i : goal.invariant-loop-i
invariant-loop-i l = (l.u < span) × (back l.before l.d l.e [] ≡ back l.before l.i l.u (take (l.d - l.i) (drop (l.i + 1) l.path)))
