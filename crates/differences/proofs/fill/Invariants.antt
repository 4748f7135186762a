use Rattle.std.proofs.Common.{◌≡◌, ℕ, ◌<◌, pos, ◌-ℤ◌, get_or}
use Rattle.differences.proofs.fill.Given as goal

abbrev pub invariant-loop-c : goal.invariant-loop-c
invariant-loop-c l = (k : ℕ) → k < l.c → get_or l.differences k (pos 0) ≡ pos (get_or l.seconds k 0) -ℤ pos (get_or l.firsts k 0)
