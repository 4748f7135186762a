-- `ledger::open` meets its contract. Each way out is one law of proofs/Opened.
use Rattle.std.proofs.Common.{sym, ◌∙◌, ap}
use Rattle.paper.specs.Yard.{crossings}
use Rattle.paper.specs.Order.{order}
use Rattle.checker.specs.Reading.{checked_of}
use Rattle.bills.specs.Billing.{lines_of}
use Rattle.held_lines.specs.Lines.{held_of, gathered}
use Rattle.agreeing.proofs.Refusing.{fit_of}
use Rattle.ledger.proofs.Opened.{open-refused, eleven-first, then-room, open-written}
use Rattle.ledger.proofs.open.Goals as goal

pub returns-in-Err : goal.returns-in-Err
returns-in-Err c =
    let o = order c.args.bays c.args.rails.now c.args.start.now c.args.goal.now in open-refused o c.args.plan.now c.args.marks.now c.args.running c.args.count c.in-Err.r c.hold.result (c.hold.ensures ∙ ap (held_of 0) c.no_lines.ensures) (eleven-first o c.args.plan.now c.args.marks.now c.args.running c.args.count c.in-Err.r (ap checked_of (sym c.in-Err.is) ∙ c.up_to_eleven-checked.ensures))

pub returns-then-count-start : goal.returns-then-count-start
returns-then-count-start c = let o = order c.args.bays c.args.rails.now c.args.start.now c.args.goal.now in open-refused o c.args.plan.now c.args.marks.now c.args.running c.args.count _ c.hold-then-count-start.result (c.hold-then-count-start.ensures ∙ ap (held_of 0) c.no_lines-then-count-start.ensures) (then-room o c.args.plan.now c.args.marks.now c.args.running c.args.count (ap checked_of (sym c.in_default.is) ∙ c.up_to_eleven-checked.ensures) c.if-count-start.true)

pub work_out-fresh-requires : goal.work_out-fresh-requires
work_out-fresh-requires c = fit_of (order c.args.bays c.args.rails.now c.args.start.now c.args.goal.now) c.args.plan.now c.args.marks.now (ap checked_of (sym c.in_default.is) ∙ c.up_to_eleven-checked.ensures)

pub returns : goal.returns
returns c =
    let w = c.work_out-fresh in
    let as_many = c.if-count-start.false in
    open-written (order c.args.bays c.args.rails.now c.args.start.now c.args.goal.now) c.args.plan.now c.args.marks.now c.args.running c.args.count (ap checked_of (sym c.in_default.is) ∙ c.up_to_eleven-checked.ensures) as_many
    w.result.running w.ensures.is_record w.result.held (w.ensures.is_held ∙ ap (λ k. gathered (lines_of k (crossings c.args.plan.now) c.args.marks.now)) (sym as_many))
