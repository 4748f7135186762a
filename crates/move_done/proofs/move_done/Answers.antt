-- The pass of afresh's proofs/Passing, at a done crossing and at an undone one.
use Rattle.std.proofs.Common.{length, arith}
use Rattle.paper.specs.Limits.{most_bays}
use Rattle.plans.proofs.Rest.{fits-named}
use Rattle.afresh.proofs.Passing.{moving-done, moving-undone, moving-ends}
use Rattle.move_done.proofs.move_done.Goals as goal
use Rattle.move_done.proofs.move_done.Goals.{then-marks-i-eq1, else-marks-i-eq1}

pub bounds-at-carrier : goal.bounds-at-carrier
bounds-at-carrier c =
    rw c.loop-i.invariant.long (fits-named (length c.args.at.now) most_bays _ c.requires.1 _ (omega arith) _ c.crossing_at-x.ensures).0

pub loop-i-preserved : goal.loop-i-preserved
loop-i-preserved c =
    elim c.if-marks-i-eq1.branch [
      | then-marks-i-eq1 w ↦ rw w.at-is (moving-done _ _ c.requires.0 _ _ _ c.loop-i.invariant (omega arith) w.if-marks-i-eq1.true _ w.crossing_at-x.ensures)
      | else-marks-i-eq1 w ↦ rw w.at-is (moving-undone _ _ c.requires.0 _ _ _ c.loop-i.invariant (omega arith) w.if-marks-i-eq1.false)
    ]

pub returns : goal.returns
returns c = moving-ends _ _ c.requires.0 _ _ _ c.loop-i.invariant (omega arith)
