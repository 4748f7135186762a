use Rattle.std.proofs.Common.{sym, ◌∙◌, ap}
use Rattle.paper.specs.Yard.{crossings, named}
use Rattle.trips.specs.Trips.{is_of}
use Rattle.setting_out.proofs.Staying.{nobody-enters, another-enters}
use Rattle.setting_out.proofs.comes_back.Goals as goal

pub returns-then-next-plan : goal.returns-then-next-plan
returns-then-next-plan c = λ f.
    let e = c.next_entering-next.ensures in
    let next = c.next_entering-next.result in
    let own = ap (λ y. is_of y.carrier (named (crossings c.args.plan.now) next)) c.crossing_at.ensures in
    another-enters c.args.plan.now c.args.name next e.after e.upto e.met c.if-next-plan.true (sym own ∙ sym c.is_of.ensures ∙ f)

pub returns-else-next-plan : goal.returns-else-next-plan
returns-else-next-plan c = λ f.
    let e = c.next_entering-next.ensures in
    nobody-enters c.args.plan.now c.args.name c.next_entering-next.result e.after e.upto e.met c.if-next-plan.false
