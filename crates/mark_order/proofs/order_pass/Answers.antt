use Rattle.std.proofs.Common.{sym, ◌∙◌, arith}
use Rattle.paper.specs.Limits.{most_bays}
use Rattle.docket.specs.Reading.{crossing_of}
use Rattle.plans.proofs.Rest.{fits-named}
use Rattle.mark_order.proofs.Ordering.{ordering-start, ordering-undone, ordering-done, ordering-met, ordering-end}
use Rattle.mark_order.proofs.order_pass.Goals as goal
use Rattle.mark_order.proofs.order_pass.Goals.{then-marks-i-eq1+else-touched, else-marks-i-eq1}

pub loop-i-init : goal.loop-i-init
loop-i-init c = ordering-start c.args.plan.now c.args.marks.now c.requires.0 c.requires.1 c.done_to-i.result (omega (arith, c.done_to-i.ensures.0)) c.done_to-i.ensures.1

pub touched-requires : goal.touched-requires
touched-requires c = fits-named most_bays most_bays _ c.requires.1 c.loop-i.i c.loop-i-test.true (crossing_of c.crossing_at-x.result) c.crossing_at-x.ensures

pub returns-then-touched : goal.returns-then-touched
returns-then-touched c =
    let t = c.loop-i in
    ordering-met _ _ t.carriers t.bays t.i t.invariant c.loop-i-test.true c.requires.0 c.requires.1 (crossing_of c.crossing_at-x.result) c.crossing_at-x.ensures c.if-marks-i-eq1.true (sym c.touched.ensures ∙ c.if-touched.true)

pub bounds-carriers-carrier : goal.bounds-carriers-carrier
bounds-carriers-carrier c = (fits-named most_bays most_bays _ c.requires.1 c.loop-i.i c.loop-i-test.true (crossing_of c.crossing_at-x.result) c.crossing_at-x.ensures).0

pub bounds-bays-from : goal.bounds-bays-from
bounds-bays-from c = (fits-named most_bays most_bays _ c.requires.1 c.loop-i.i c.loop-i-test.true (crossing_of c.crossing_at-x.result) c.crossing_at-x.ensures).1

pub bounds-bays-to : goal.bounds-bays-to
bounds-bays-to c = (fits-named most_bays most_bays _ c.requires.1 c.loop-i.i c.loop-i-test.true (crossing_of c.crossing_at-x.result) c.crossing_at-x.ensures).2

pub loop-i-preserved : goal.loop-i-preserved
loop-i-preserved c =
    let t = c.loop-i in
    let x = crossing_of c.crossing_at-x.result in
    elim c.if-marks-i-eq1.branch [
      | then-marks-i-eq1+else-touched w ↦ rw (w.carriers-is, w.bays-is) (ordering-done _ _ t.carriers t.bays t.i t.invariant c.loop-i-test.true c.requires.0 c.requires.1 x c.crossing_at-x.ensures w.if-marks-i-eq1.true (sym w.touched.ensures ∙ w.if-touched.false))
      | else-marks-i-eq1 w ↦ rw (w.carriers-is, w.bays-is) (ordering-undone _ _ t.carriers t.bays t.i t.invariant c.loop-i-test.true c.requires.0 c.requires.1 x c.crossing_at-x.ensures w.if-marks-i-eq1.false)
    ]

pub returns : goal.returns
returns c = ordering-end _ _ _ _ _ c.loop-i.invariant c.loop-i-test.false
