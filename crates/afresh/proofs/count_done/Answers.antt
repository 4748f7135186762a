use Rattle.std.proofs.Common.{arith}
use Rattle.afresh.proofs.Passing.{counting-done, counting-undone, counting-ends}
use Rattle.afresh.proofs.count_done.Goals as goal
use Rattle.afresh.proofs.count_done.Goals.{then-marks-i-eq1, else-marks-i-eq1}

pub loop-i-preserved : goal.loop-i-preserved
loop-i-preserved c =
    elim c.if-marks-i-eq1.branch [
      | then-marks-i-eq1 w ↦ rw w.done-is (counting-done _ _ c.requires.0 _ _ c.loop-i.invariant (omega arith) w.if-marks-i-eq1.true)
      | else-marks-i-eq1 w ↦ rw w.done-is (counting-undone _ _ c.requires.0 _ _ c.loop-i.invariant (omega arith) w.if-marks-i-eq1.false)
    ]

pub returns : goal.returns
returns c = counting-ends _ _ c.requires.0 _ _ c.loop-i.invariant (omega arith)
