use Rattle.std.proofs.Common.{◌<◌, ◌≤◌}
use Rattle.rings.specs.Search.{Shown}
use Rattle.ways.proofs.Finding.{Stage}
use Rattle.ways.proofs.one_by_one.Given as goal

abbrev pub invariant-loop-d : goal.invariant-loop-d
invariant-loop-d l =
    (l.done < l.count) × (l.count ≤ l.n) × (l.d ≤ l.done) × ((s : Shown l.n l.table l.held) → Stage s l.middle l.wanted l.d l.seen l.path l.before l.done l.count)
