use Rattle.mark_order.proofs.Odd.{odd-start, odd-on, odd-end}
use Rattle.mark_order.proofs.odd_mark.Goals as goal

pub loop-mark-init : goal.loop-mark-init
loop-mark-init c = odd-start c.args.marks.now

pub loop-mark-preserved : goal.loop-mark-preserved
loop-mark-preserved c = let t = c.loop-mark in odd-on c.args.marks.now t.odd t.mark-index t.invariant c.loop-mark-test.true

pub returns : goal.returns
returns c = let t = c.loop-mark in odd-end c.args.marks.now t.odd t.mark-index t.invariant c.loop-mark-test.false
