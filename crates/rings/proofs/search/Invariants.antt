use Rattle.rings.specs.Search.{Shown}
use Rattle.rings.proofs.Searching.{Searching}
use Rattle.rings.proofs.search.Given as goal

abbrev pub invariant-loop-d : goal.invariant-loop-d
invariant-loop-d l = (s : Shown l.n l.table l.held) → Searching s l.middle l.wanted l.d l.seen l.ring l.rows
