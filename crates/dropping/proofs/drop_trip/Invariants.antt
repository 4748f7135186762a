use Rattle.std.proofs.Common.{◌≡◌, suc, ◌-◌, ◌≤◌, ◌<◌, length}
use Rattle.paper.specs.Yard.{crossings, named}
use Rattle.trips.specs.Names.{drop_trip}
use Rattle.chains.specs.Links.{Linked}
use Rattle.dropping.proofs.drop_trip.Given as goal

-- what is dropped so far, and then what dropping the rest would give, is the whole
abbrev pub invariant-loop-m : goal.invariant-loop-m
invariant-loop-m l = record {
  after : l.name < l.m;
  upto : l.m ≤ suc l.last;
  long : length l.gone ≡ length l.plan;
  linked : Linked l.plan l.gone l.links;
  dropped : drop_trip l.carrier.0 l.m (suc l.last - l.m) l.gone (crossings l.plan)
      ≡ drop_trip l.carrier.0 l.name (suc l.last - l.name) l.fn.gone (crossings l.plan);
  own : l.m ≤ l.last → (named (crossings l.plan) l.m).carrier ≡ l.carrier.0;
}

abbrev pub decreases-loop-m : goal.decreases-loop-m
decreases-loop-m l = suc l.last - l.m
