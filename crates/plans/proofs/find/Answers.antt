-- `plans::find` meets its contract: a name below the plan's length has its crossing, any other has none.
use Rattle.std.proofs.Common.{ap, rules, le-leb, length}
use mathlib.Core.Option.{some}
use borrow.Author.Tests.{lt-leb}
use lib.ListN.{length-map}
use Rattle.paper.specs.Yard.{crossings}
use Rattle.plans.specs.Reading.{found_in}
use Rattle.plans.proofs.find.Goals as goal

pub returns-then-at-plan : goal.returns-then-at-plan
unfolding found_in
returns-then-at-plan c =
    let s = c.before.before.before in
    let plan = s.args.plan.now in
    rw (lt-leb (length (crossings plan)) s.args.name (rw length-map c.if-at-plan.true)) (ap some c.crossing_at.ensures)

pub returns-else-at-plan : goal.returns-else-at-plan
unfolding found_in
returns-else-at-plan c =
    let s = c.before.before in
    let plan = s.args.plan.now in
    rw (le-leb (length (crossings plan)) s.args.name (rw length-map c.if-at-plan.false))
