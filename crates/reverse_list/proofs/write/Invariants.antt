use Rattle.std.proofs.Common.{◌≡◌}
use Rattle.reverse_list.proofs.Writing.{written_to}
use Rattle.reverse_list.proofs.write.Given as goal

abbrev pub invariant-loop-i : goal.invariant-loop-i
invariant-loop-i l = l.out ≡ written_to l.list l.initial.out l.i
