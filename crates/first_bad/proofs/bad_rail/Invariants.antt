use Rattle.std.proofs.Common.{◌≡◌, [], take}
use Rattle.paper.specs.Basics.{first_bad}
use Rattle.paper.specs.Docket.{bad_rail, rails_of}
use Rattle.first_bad.specs.Finding.{Laid}
use Rattle.first_bad.proofs.Firsts.{bad_from}
use Rattle.first_bad.proofs.bad_rail.Given as goal

-- the table holds the rails passed, and none of them was bad
abbrev pub invariant-loop-i : goal.invariant-loop-i
invariant-loop-i l = record {
  so_far : first_bad (bad_rail l.n) 0 [] (rails_of l.rails) ≡ bad_from (bad_rail l.n) (0, 0) (rails_of l.rails) l.i;
  laid : Laid l.n (take l.i (rails_of l.rails)) l.table;
}
