use Rattle.setting_out.specs.SetOut.{OneMore}
use Rattle.setting_out.proofs.Staying.{one-joins, set_on}
use Rattle.setting_out.proofs.set_out.Goals as goal
use Rattle.setting_out.proofs.set_out.Goals.{then-comes_back, else-comes_back}

pub loop-name-preserved : goal.loop-name-preserved
loop-name-preserved c =
    let plan = c.args.plan.now in
    let t = c.loop-name in
    let one : OneMore plan t.todo t.name c.if-comes_back.todo =
    elim c.if-comes_back.branch [
      | then-comes_back w ↦ rw w.todo-is (one-joins plan t.todo _ t.name w.add.ensures)
      | else-comes_back w ↦ rw w.todo-is (record { fewer = λ k z. z; here = λ z. c.comes_back.ensures w.if-comes_back.false })
    ] in
    set_on plan t.todo _ t.name t.invariant one
