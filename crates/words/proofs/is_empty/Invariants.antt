-- Some bit of the words passed is set exactly if some bay of theirs is in the set.
use Rattle.std.proofs.Common.{◌*◌}
use Rattle.words.specs.Sets.{mem}
use Rattle.words.proofs.Meeting.{Told}
use Rattle.words.proofs.is_empty.Given as goal

abbrev pub invariant-loop-i : goal.invariant-loop-i
invariant-loop-i l = Told (mem l.ws) l.any (l.i * 64)
