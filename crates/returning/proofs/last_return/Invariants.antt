use Rattle.std.proofs.Common.{◌≡◌, suc, ◌-◌, ◌≤◌, ◌<◌, length}
use Rattle.docket.specs.Reading.{crossing_of}
use Rattle.paper.specs.Yard.{crossings, named}
use Rattle.chains.specs.Links.{Linked}
use Rattle.returning.specs.Returns.{last_from}
use Rattle.returning.proofs.last_return.Given as goal

-- what is found from m on, or the last return so far, is what is found from the name on
abbrev pub invariant-loop-m : goal.invariant-loop-m
invariant-loop-m l = record {
  after : l.name < l.m;
  upto : l.m ≤ length l.plan;
  before : l.last < l.m;
  linked : Linked l.plan l.gone l.links;
  found : last_from (crossing_of l.x) (crossings l.plan) l.gone l.last l.m ≡ last_from (crossing_of l.x) (crossings l.plan) l.gone l.name (suc l.name);
  meets : l.m < length l.plan → (named (crossings l.plan) l.m).to ≡ l.x.from.0;
}

abbrev pub decreases-loop-m : goal.decreases-loop-m
decreases-loop-m l = length l.plan - l.m
