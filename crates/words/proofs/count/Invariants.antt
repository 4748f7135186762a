-- The words passed have as many ones as there are members below 64 times their number.
use Rattle.std.proofs.Common.{◌≡◌, ◌*◌, ◌≤◌, length}
use Rattle.paper.specs.Basics.{filter, up_to}
use Rattle.words.specs.Sets.{mem}
use Rattle.words.proofs.count.Given as goal

abbrev pub invariant-loop-w : goal.invariant-loop-w
invariant-loop-w l = record {
  fits : l.n ≤ 64 * l.w-index;
  counted : l.n ≡ length (filter (mem l.ws) (up_to (64 * l.w-index)));
}
