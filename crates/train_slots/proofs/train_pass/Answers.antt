-- Each turn is one of the pass, and what it answers is written at the name.
use Rattle.std.proofs.Common.{arith}
use Rattle.slots.proofs.Writing.{writing_start, writing-on, writing-end}
use Rattle.train_slots.proofs.Passing.{still-start, turn-asks, tables-on, still-on, still-end}
use Rattle.train_slots.proofs.train_pass.Goals as goal

pub loop-i-init : goal.loop-i-init
loop-i-init c = writing_start _ _ (still-start c.args.plan.now)

pub next_slot-requires : goal.next_slot-requires
next_slot-requires c = turn-asks c.loop-i.invariant.tables (omega arith) c.requires.2 c.crossing_at.ensures c.requires.1

pub loop-i-preserved : goal.loop-i-preserved
loop-i-preserved c =
    let w = c.loop-i.invariant in
    writing-on w (omega arith) c.requires.0
    (tables-on w.tables (omega arith) c.requires.2 c.crossing_at.ensures c.next_slot.ensures)
    (still-on w.tables (omega arith) c.requires.2 c.crossing_at.ensures c.next_slot.ensures)

pub returns : goal.returns
returns c = let w = c.loop-i.invariant in writing-end w (omega arith) (still-end w.tables (omega arith))
