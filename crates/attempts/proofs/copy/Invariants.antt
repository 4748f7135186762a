-- `attempts::copy` meets its contract. As many as were copied are the same.
use Rattle.std.proofs.Common.{◌≡◌, refl, ◌≤◌, ◌-◌, arith, length, take, rules}
use Rattle.attempts.proofs.Attempting.{copy_more, copied}
use Rattle.attempts.proofs.copy.Given as goal

abbrev pub invariant-loop-i : goal.invariant-loop-i
invariant-loop-i l =
    (l.i ≤ length l.from) × (length l.to ≡ length l.initial.to) × (take l.i l.to ≡ take l.i l.from)

abbrev pub decreases-loop-i : goal.decreases-loop-i
decreases-loop-i l =
    length l.from - l.i
