use Rattle.std.proofs.Common.{◌≡◌, ◌<◌, ℕ}
use Rattle.words.specs.Sets.{span}
use Rattle.outlook.specs.Outlook.{Shut}
use Rattle.outlook.proofs.Looking.{Looking, Inside}
use Rattle.outlook.proofs.open_sides.Given as goal

abbrev pub invariant-loop : goal.invariant-loop
invariant-loop l =
    (l.shut ≡ l.initial.shut)
    × Inside l.n l.ring
    × ((v : ℕ) → v < span → Shut v l.table l.free l.initial.shut → Looking l.n v l.table l.free l.seen l.ring)
