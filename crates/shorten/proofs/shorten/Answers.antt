use Rattle.std.proofs.Common.{◌∙◌, sym, ap}
use Rattle.paper.specs.Order.{order}
use Rattle.checker.specs.Reading.{checked_of}
use Rattle.begun.proofs.Fresh.{fresh-good, fresh-undone, good-done}
use Rattle.shorten.proofs.Saying.{fits, short-plan, lawful, says-refused, says-mismarked, says-begun, says-room}
use Rattle.shorten.proofs.shorten.Goals as goal

pub returns-in-Err : goal.returns-in-Err
returns-in-Err c =
    let o = order c.args.bays c.args.rails.now c.args.start.now c.args.goal.now in
    says-refused o c.args.plan.now c.args.marks.now c.args.out.now _ (ap checked_of (sym c.in-Err.is) ∙ c.check-checked.ensures)

pub shorten_checked-requires : goal.shorten_checked-requires
shorten_checked-requires c =
    let o = order c.args.bays c.args.rails.now c.args.start.now c.args.goal.now in
    let passes = ap checked_of (sym c.in_default.is) ∙ c.check-checked.ensures in
    record {
      lawful = lawful o c.args.plan.now c.args.marks.now c.args.out.now passes;
      short = short-plan o c.args.plan.now c.args.marks.now c.args.out.now passes;
      fits = fits o c.args.plan.now c.args.marks.now c.args.out.now passes;
    }

pub returns-then-is_fresh : goal.returns-then-is_fresh
returns-then-is_fresh c =
    let o = order c.args.bays c.args.rails.now c.args.start.now c.args.goal.now in
    let passes = ap checked_of (sym c.in_default.is) ∙ c.check-checked.ensures in
    let fresh = sym c.is_fresh.ensures ∙ c.if-is_fresh.true in
    says-room o c.args.plan.now c.args.marks.now c.args.out.now passes (fresh-good c.args.plan.now c.args.marks.now fresh) (fresh-undone c.args.plan.now c.args.marks.now fresh) c.shorten_checked.result _ c.shorten_checked.ensures

pub bad_marks-requires : goal.bad_marks-requires
bad_marks-requires c =
    let o = order c.args.bays c.args.rails.now c.args.start.now c.args.goal.now in
    fits o c.args.plan.now c.args.marks.now c.args.out.now (ap checked_of (sym c.in_default.is) ∙ c.check-checked.ensures)

pub returns-then-bad_marks : goal.returns-then-bad_marks
returns-then-bad_marks c =
    let o = order c.args.bays c.args.rails.now c.args.start.now c.args.goal.now in
    let passes = ap checked_of (sym c.in_default.is) ∙ c.check-checked.ensures in
    says-mismarked o c.args.plan.now c.args.marks.now c.args.out.now passes (sym c.bad_marks.ensures ∙ c.if-bad_marks.true)

pub returns : goal.returns
returns c =
    let o = order c.args.bays c.args.rails.now c.args.start.now c.args.goal.now in
    let passes = ap checked_of (sym c.in_default.is) ∙ c.check-checked.ensures in
    let good = sym c.bad_marks.ensures ∙ c.if-bad_marks.false in
    let stale = sym c.is_fresh.ensures ∙ c.if-is_fresh.false in
    says-begun o c.args.plan.now c.args.marks.now c.args.out.now passes good (good-done c.args.plan.now c.args.marks.now stale good)
