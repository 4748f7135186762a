use Rattle.slots.proofs.Passing.{still-start, turn-asks, tables-on, still-on, still-end}
use Rattle.slots.proofs.Writing.{writing_start, writing-on, writing-end}
use Rattle.slots.proofs.slot_pass.Goals as goal

pub loop-i-init : goal.loop-i-init
loop-i-init c = writing_start _ _ (still-start c.args.plan.now)

pub next_slot-requires : goal.next_slot-requires
next_slot-requires c = turn-asks c.loop-i.invariant.tables c.loop-i-test.true c.requires.2 c.crossing_at.ensures c.requires.1

pub loop-i-preserved : goal.loop-i-preserved
loop-i-preserved c =
    let w = c.loop-i.invariant in
    let more = c.loop-i-test.true in
    let is = c.crossing_at.ensures in
    let turned = c.next_slot.ensures in
    writing-on w more c.requires.0 (tables-on w.tables more c.requires.2 is turned) (still-on w.tables more c.requires.2 is turned)

pub returns : goal.returns
returns c = let w = c.loop-i.invariant in writing-end w c.loop-i-test.false (still-end w.tables c.loop-i-test.false)
