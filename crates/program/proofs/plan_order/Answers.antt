-- `program::plan_order` meets its contract: the planner's answer, shortened or not, fits the tables of slots.
use Rattle.std.proofs.Common.{sym, arith, length-take-le, rules}
use Rattle.program.proofs.Telling.{planned-in}
use Rattle.program.proofs.Readying.{short-or-ready, plain-or-ready}
use Rattle.program.proofs.plan_order.Goals as goal

pub slice_bounds-plan-end : goal.slice_bounds-plan-end
slice_bounds-plan-end c = sym (length-take-le _ _ c.requires.0)

pub slice_bounds-plan-end-then-shorten : goal.slice_bounds-plan-end-then-shorten
slice_bounds-plan-end-then-shorten c = sym (length-take-le _ _ c.requires.1)

pub slice_bounds-plan-end-then-shorten-2 : goal.slice_bounds-plan-end-then-shorten-2
slice_bounds-plan-end-then-shorten-2 c =
    sym (length-take-le _ _ c.requires.2)

pub slice_bounds-shorten_planned-end : goal.slice_bounds-shorten_planned-end
slice_bounds-shorten_planned-end c =
    sym (length-take-le _ _ c.requires.0)

pub slice_bounds-shorten_planned-end-then-shorten : goal.slice_bounds-shorten_planned-end-then-shorten
slice_bounds-shorten_planned-end-then-shorten c =
    sym (length-take-le _ _ c.requires.1)

pub slice_bounds-shorten_planned-end-then-shorten-2 : goal.slice_bounds-shorten_planned-end-then-shorten-2
slice_bounds-shorten_planned-end-then-shorten-2 c =
    sym (length-take-le _ _ c.requires.2)

pub shorten_planned-requires : goal.shorten_planned-requires
shorten_planned-requires c =
    (rw c.verdict.ensures (planned-in c.plan-found.ensures (search rules) (search rules)), c.requires.3)

pub returns-then-shorten : goal.returns-then-shorten
returns-then-shorten c =
    short-or-ready c.if-shorten.true c.shorten_planned.ensures (omega (arith, c.requires.3, c.shorten_planned.auto.short))

pub slice_bounds-plan-end-2 : goal.slice_bounds-plan-end-2
slice_bounds-plan-end-2 c = sym (length-take-le _ _ c.requires.0)

pub slice_bounds-plan-end-3 : goal.slice_bounds-plan-end-3
slice_bounds-plan-end-3 c = sym (length-take-le _ _ c.requires.1)

pub slice_bounds-plan-end-4 : goal.slice_bounds-plan-end-4
slice_bounds-plan-end-4 c =
    sym (length-take-le _ _ c.requires.2)

pub returns : goal.returns
returns c =
    plain-or-ready c.if-shorten.false (rw c.verdict-2.ensures (planned-in c.plan.ensures (sym c.requires.3) (omega (arith, c.requires.3, c.plan.auto.out))))
