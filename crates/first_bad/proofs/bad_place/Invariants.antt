use Rattle.std.proofs.Common.{◌≡◌, []}
use Rattle.paper.specs.Basics.{first_bad}
use Rattle.paper.specs.Docket.{bad_place}
use Rattle.first_bad.proofs.Firsts.{bad_from}
use Rattle.first_bad.proofs.Places.{Used}
use Rattle.first_bad.proofs.bad_place.Given as goal

-- the bays passed are marked, so a marked bay is one that is already used
abbrev pub invariant-loop-c : goal.invariant-loop-c
invariant-loop-c l = record {
  so_far : first_bad (bad_place l.n) 0 [] l.place ≡ bad_from (bad_place l.n) 0 l.place l.c;
  used : Used l.place l.c l.used;
}
