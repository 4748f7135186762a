-- No name of the words passed, from a on, is in the set.
use Rattle.std.proofs.Common.{◌≡◌, false, ℕ, ◌+◌, ◌*◌, ◌≤◌, ◌<◌, length}
use Rattle.words.specs.Sets.{mem}
use Rattle.name_sets.proofs.next_name.Given as goal

abbrev pub invariant-loop-i : goal.invariant-loop-i
invariant-loop-i l = record {
  shift : l.s < 64;
  upto : l.i * 64 + l.s ≤ 64 * length l.ws;
  from : l.a ≤ l.i * 64 + l.s;
  before : (k : ℕ) → l.a ≤ k → k < l.i * 64 + l.s → mem l.ws k ≡ false;
}
