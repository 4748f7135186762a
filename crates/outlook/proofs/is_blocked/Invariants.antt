-- `outlook::is_blocked` meets its contract. What is not shut holds all that the empty bays and the two reach, and at most two neighbours of v.
use Rattle.std.proofs.Common.{◌≡◌, refl, ◌-◌, ◌≤◌, ◌<◌, arith, length, rules}
use borrow.Author.Tests.{not-true}
use Rattle.paper.proofs.Tests.{not-both}
use Rattle.words.specs.Sets.{words, span}
use Rattle.outlook.specs.Outlook.{Shut}
use Rattle.outlook.proofs.Looking.{side-inside, shut-first, free-first, blocked-by}
use Rattle.outlook.proofs.is_blocked.Given as goal

abbrev pub invariant-loop-x : goal.invariant-loop-x
invariant-loop-x l =
    (length l.shut ≡ words)
    × (l.found ≤ 2)
    × (l.x ≤ span)
    × (l.x < span → l.x < l.n)
    × Shut l.v.0 l.table l.free l.shut

abbrev pub decreases-loop-x : goal.decreases-loop-x
decreases-loop-x l = span - l.x
