use native.Mathlib.Nat.{lt_of_le_of_lt}
use Rattle.dropping.proofs.Looking.{looked, rank_up}
use Rattle.dropping.proofs.drop_trips.Goals as goal

pub loop-name-smaller : goal.loop-name-smaller
loop-name-smaller c = lt_of_le_of_lt (rank_up c.args.plan.now _ _ _ c.next_name-name-in-loop-name.ensures.from) c.look-low.ensures.less

pub returns : goal.returns
returns c = let t = c.loop-name in (t.invariant.going.long_gone, looked c.args.plan.now t.gone t.todo t.name c.loop-name-test.false t.invariant.going)
