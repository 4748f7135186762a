use Rattle.std.proofs.Common.{arith}
use Rattle.afresh.proofs.Leading.{leading-start, leading-led, leading-left, leading_end}
use Rattle.afresh.proofs.lead.Goals as goal
use Rattle.afresh.proofs.lead.Goals.{then-name-plan, else-name-plan}

pub loop-c-init : goal.loop-c-init
loop-c-init c = leading-start _ _ _ c.requires

pub loop-c-preserved : goal.loop-c-preserved
loop-c-preserved c =
    elim c.if-name-plan.branch [
      | then-name-plan w ↦ rw w.at-is (leading-led _ _ _ _ _ c.loop-c.invariant (omega arith) w.if-name-plan.true _ w.crossing_at.ensures)
      | else-name-plan w ↦ rw w.at-is (leading-left _ _ _ _ _ c.loop-c.invariant w.if-name-plan.false)
    ]

pub returns : goal.returns
returns c = leading_end _ _ _ _ _ c.loop-c.invariant (omega arith)
