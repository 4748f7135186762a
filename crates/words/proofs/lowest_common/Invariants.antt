-- No bay of the words passed is in both rows.
use Rattle.std.proofs.Common.{◌≡◌, false, ℕ, ◌*◌, ◌≤◌, ◌<◌}
use Rattle.paper.specs.Basics.{◌and◌}
use Rattle.words.specs.Sets.{mem_row}
use Rattle.words.proofs.lowest_common.Given as goal

abbrev pub invariant-loop-i : goal.invariant-loop-i
invariant-loop-i l = (k : ℕ) → 0 ≤ k → k < l.i * 64 → mem_row l.s l.a k and mem_row l.t l.b k ≡ false
