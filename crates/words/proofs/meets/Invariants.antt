-- Some bit of the words passed is set in both rows exactly if some bay of theirs is in both.
use Rattle.std.proofs.Common.{◌*◌}
use Rattle.paper.specs.Basics.{◌and◌}
use Rattle.words.specs.Sets.{mem_row}
use Rattle.words.proofs.Meeting.{Told}
use Rattle.words.proofs.meets.Given as goal

abbrev pub invariant-loop-i : goal.invariant-loop-i
invariant-loop-i l = Told (λ x. mem_row l.s l.a x and mem_row l.t l.b x) l.any (l.i * 64)
