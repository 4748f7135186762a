-- No bay of the words passed is free.
use Rattle.std.proofs.Common.{◌≡◌, false, not, ℕ, ◌*◌, ◌≤◌, ◌<◌}
use Rattle.paper.specs.Basics.{◌and◌}
use Rattle.words.specs.Sets.{mem, mem_row}
use Rattle.words.proofs.lowest_free.Given as goal

abbrev pub invariant-loop-i : goal.invariant-loop-i
invariant-loop-i l = (k : ℕ) → 0 ≤ k → k < l.i * 64 → mem_row l.table l.a k and (mem l.wanted k and not (mem l.held k)) ≡ false
