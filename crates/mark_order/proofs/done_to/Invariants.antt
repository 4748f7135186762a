use Rattle.std.proofs.Common.{◌≡◌, ℕ, ◌*◌, ◌<◌, get_or}
use Rattle.mark_order.proofs.done_to.Given as goal

-- each block that is passed is done
abbrev pub invariant-loop-block : goal.invariant-loop-block
invariant-loop-block l = (k : ℕ) → k < l.block * 64 → get_or l.marks k 0 ≡ 1
