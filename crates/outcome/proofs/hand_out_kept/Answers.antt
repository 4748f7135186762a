-- `outcome::hand_out_kept` meets its contract. What was played decides 7 and 8, and what was kept is the plan.
use Rattle.std.proofs.Common.{rules, inl, inr, sym, length-take-le}
use Rattle.outcome.proofs.Handing.{plan-in, due-of, copied-out, hands-stopped, hands-long, hands-plan, done-if-kept, longer-unless-kept}
use Rattle.outcome.proofs.hand_out_kept.Goals as goal

pub returns-then-out-m : goal.returns-then-out-m
returns-then-out-m c = λ o before p. done-if-kept (hands-long (plan-in p c.in-Ok.is) (inl c.if-out-m.true))

pub returns-then-m-gt-CROSSINGS : goal.returns-then-m-gt-CROSSINGS
returns-then-m-gt-CROSSINGS c = λ o before p. done-if-kept (hands-long (plan-in p c.in-Ok.is) (inr c.if-m-gt-CROSSINGS.true))

pub returns-then-kept-m : goal.returns-then-kept-m
returns-then-kept-m c = λ o before p. longer-unless-kept (due-of (plan-in p c.in-Ok.is) c.if-out-m.false c.if-m-gt-CROSSINGS.false)

pub slice_bounds-copy-end : goal.slice_bounds-copy-end
slice_bounds-copy-end c = sym (length-take-le _ _ c.if-kept-m.false)

pub copy-requires : goal.copy-requires
copy-requires c =
    rw (length-take-le _ c.args.kept.now c.if-kept-m.false) c.if-out-m.false

pub returns-in-Err : goal.returns-in-Err
returns-in-Err c = λ o before p. done-if-kept (hands-stopped _ (p.stops _ c.in-Err.is))

pub returns-else-kept-m : goal.returns-else-kept-m
returns-else-kept-m c =
    λ o before p.
    let kept = plan-in p c.in-Ok.is in
    done-if-kept (hands-plan kept c.if-out-m.false c.if-m-gt-CROSSINGS.false (copied-out _ kept c.if-kept-m.false c.copy.ensures))
