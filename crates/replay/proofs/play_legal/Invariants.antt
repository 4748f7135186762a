use Rattle.paper.specs.Yard.{Yard}
use Rattle.replay.specs.Playing.{InRows, Standing}
use Rattle.replay.proofs.Walking.{Walked}
use Rattle.replay.proofs.play_legal.Given as goal

abbrev pub invariant-loop-i : goal.invariant-loop-i
invariant-loop-i l = record {
  in_rows : InRows l.rows l.table l.at;
  walked : (Y : Yard) → Standing Y l.rows l.table l.initial.at l.initial.occupied → Walked Y l.rows l.table l.initial.at l.plan l.at l.occupied l.i;
}
