use Rattle.std.proofs.Common.{◌≡◌, true, ℕ, ◌≤◌, ◌<◌, get_or}
use Rattle.mark_order.proofs.all_done.Given as goal

abbrev pub invariant-loop-i : goal.invariant-loop-i
invariant-loop-i l = l.all ≡ true → (k : ℕ) → l.from ≤ k → k < l.i → get_or l.marks k 0 ≡ 1
