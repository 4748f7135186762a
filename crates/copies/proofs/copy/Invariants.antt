use Rattle.std.proofs.Common.{◌≡◌}
use Rattle.copies.proofs.Copies.{copied}
use Rattle.copies.proofs.copy.Given as goal

abbrev pub invariant-loop-i : goal.invariant-loop-i
invariant-loop-i g l = l.to ≡ copied l.initial.to l.from l.i
