-- `ledger::compare` meets its contract. Each way out is one law of proofs/Agreeing.
use Rattle.std.proofs.Common.{sym, ◌∙◌, ap}
use Rattle.paper.specs.Order.{order}
use Rattle.checker.specs.Reading.{checked_of}
use Rattle.agreeing.proofs.Refusing.{fit_of}
use Rattle.ledger.proofs.Agreeing.{compare-refused, compare-agrees, compare-differs}
use Rattle.ledger.proofs.compare.Goals as goal

pub returns-in-Err : goal.returns-in-Err
returns-in-Err c = compare-refused (order c.args.bays c.args.rails.now c.args.start.now c.args.goal.now) c.args.plan.now c.args.marks.now c.args.accounts.running c.args.accounts.held c.in-Err.r (ap checked_of (sym c.in-Err.is) ∙ c.up_to_eleven-checked.ensures)

pub agree-agreed-requires : goal.agree-agreed-requires
agree-agreed-requires c = fit_of (order c.args.bays c.args.rails.now c.args.start.now c.args.goal.now) c.args.plan.now c.args.marks.now (ap checked_of (sym c.in_default.is) ∙ c.up_to_eleven-checked.ensures)

pub returns-then-agreed : goal.returns-then-agreed
returns-then-agreed c = compare-agrees (order c.args.bays c.args.rails.now c.args.start.now c.args.goal.now) c.args.plan.now c.args.marks.now c.args.accounts.running c.args.accounts.held (ap checked_of (sym c.in_default.is) ∙ c.up_to_eleven-checked.ensures) (sym c.if-agreed.true ∙ c.agree-agreed.ensures.0)

pub returns : goal.returns
returns c = compare-differs (order c.args.bays c.args.rails.now c.args.start.now c.args.goal.now) c.args.plan.now c.args.marks.now c.args.accounts.running c.args.accounts.held (ap checked_of (sym c.in_default.is) ∙ c.up_to_eleven-checked.ensures) (sym c.if-agreed.false ∙ c.agree-agreed.ensures.0)
