-- `ledger::report` meets its contract. Each way out is one law of proofs/Reporting.
use Rattle.std.proofs.Common.{◌≡◌, refl, sym, ◌∙◌, ap, false}
use borrow.Author.Tests.{not-true, not-false}
use Rattle.paper.specs.Order.{order}
use Rattle.paper.specs.Docket as paper
use Rattle.paper.specs.Answers.{refuse, accepts}
use Rattle.docket.specs.Reading.{refusal_of}
use Rattle.checker.specs.Reading.{checked_of}
use Rattle.marks.specs.Reading.{report_of}
use Rattle.agreeing.proofs.Refusing.{fit_of}
use Rattle.ledger.proofs.Agreeing.{compare-refused, compare-agrees, compare-differs, may-settle}
use Rattle.ledger.proofs.Reporting.{billing-left, billing-differs, billing-refused, billing-settled}
use Rattle.ledger.proofs.report.Goals as goal

no-refusal : (r : paper.Refusal) → accepts (refuse r) ≡ false
unfolding accepts
no-refusal r = refl

pub returns-in-Err : goal.returns-in-Err
returns-in-Err c =
    let o = order c.args.bays c.args.rails.now c.args.start.now c.args.goal.now in
    let u = c.unchanged.ensures in
    billing-left o c.args.plan.now c.args.marks.now c.args.accounts.running c.args.accounts.held c.args.name c.unchanged.result c.args.marks.now (refuse (refusal_of c.in-Err.r)) (billing-refused o c.args.plan.now c.args.marks.now c.args.accounts.running c.args.accounts.held c.args.name c.unchanged.result c.args.marks.now _ (compare-refused o c.args.plan.now c.args.marks.now c.args.accounts.running c.args.accounts.held c.in-Err.r (ap checked_of (sym c.in-Err.is) ∙ c.up_to_eleven-checked.ensures))) (no-refusal _) (ap report_of u.0) u.1 u.2 u.3 refl

pub agree-agreed-requires : goal.agree-agreed-requires
agree-agreed-requires c = fit_of (order c.args.bays c.args.rails.now c.args.start.now c.args.goal.now) c.args.plan.now c.args.marks.now (ap checked_of (sym c.in_default.is) ∙ c.up_to_eleven-checked.ensures)

pub returns-then-not-agreed : goal.returns-then-not-agreed
returns-then-not-agreed c =
    let o = order c.args.bays c.args.rails.now c.args.start.now c.args.goal.now in
    let u = c.unchanged-then-not-agreed.ensures in
    let passes = ap checked_of (sym c.in_default.is) ∙ c.up_to_eleven-checked.ensures in
    billing-left o c.args.plan.now c.args.marks.now c.args.accounts.running c.args.accounts.held c.args.name c.unchanged-then-not-agreed.result c.args.marks.now (refuse paper.disagrees) (billing-differs o c.args.plan.now c.args.marks.now c.args.accounts.running c.args.accounts.held c.args.name c.unchanged-then-not-agreed.result c.args.marks.now (compare-differs o c.args.plan.now c.args.marks.now c.args.accounts.running c.args.accounts.held passes (sym (not-true _ c.if-not-agreed.true) ∙ c.agree-agreed.ensures.0))) (no-refusal _) (ap report_of u.0) u.1 u.2 u.3 refl

pub settle-requires : goal.settle-requires
settle-requires c =
    let agree = c.agree-agreed in
    let o = order c.args.bays c.args.rails.now c.args.start.now c.args.goal.now in
    let passes = ap checked_of (sym c.in_default.is) ∙ c.up_to_eleven-checked.ensures in
    (may-settle o c.args.plan.now c.args.marks.now c.args.accounts.running c.args.accounts.held (compare-agrees o c.args.plan.now c.args.marks.now c.args.accounts.running c.args.accounts.held passes (sym (not-false _ c.if-not-agreed.false) ∙ agree.ensures.0)), agree.ensures.1)

pub returns : goal.returns
returns c =
    let up-to-eleven = c.up_to_eleven-checked in
    let o = order c.args.bays c.args.rails.now c.args.start.now c.args.goal.now in
    let passes = ap checked_of (sym c.in_default.is) ∙ up-to-eleven.ensures in
    billing-settled o c.args.plan.now c.args.marks.now c.args.accounts.running c.args.accounts.held c.args.name c.settle.result _ (compare-agrees o c.args.plan.now c.args.marks.now c.args.accounts.running c.args.accounts.held passes (sym (not-false _ c.if-not-agreed.false) ∙ c.agree-agreed.ensures.0)) c.settle.ensures
