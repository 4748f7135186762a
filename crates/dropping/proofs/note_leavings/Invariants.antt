use Rattle.std.proofs.Common.{◌≡◌, suc, ◌-◌, ◌≤◌}
use Rattle.paper.specs.Yard.{crossings, named}
use Rattle.words.specs.Sets.{mem}
use Rattle.trips.proofs.Freeing.{Noted}
use Rattle.chains.specs.Links.{Linked}
use Rattle.dropping.proofs.note_leavings.Given as goal

abbrev pub invariant-loop-m : goal.invariant-loop-m
invariant-loop-m l = record {
  from : l.name ≤ l.m;
  upto : l.m ≤ suc l.last;
  low : l.low ≤ l.name;
  noted : Noted l.gone (crossings l.plan) l.carrier.0 l.name (l.m - l.name) (mem l.fn.todo) (mem l.todo) l.low;
  linked : Linked l.plan l.gone l.links;
  own : l.m ≤ l.last → (named (crossings l.plan) l.m).carrier ≡ l.carrier.0;
}

abbrev pub decreases-loop-m : goal.decreases-loop-m
decreases-loop-m l = suc l.last - l.m
