-- `edges::step` meets its contract.
use Rattle.std.proofs.Common.{rules}
use Rattle.edges.proofs.Stepping.{steps-failed, steps-end, steps-cr, steps_on}
use Rattle.edges.proofs.step.Goals as goal

pub returns-then-s : goal.returns-then-s
returns-then-s c = steps-failed c.args.s c.args.b c.if-s.true

pub returns-then-b-eq10 : goal.returns-then-b-eq10
returns-then-b-eq10 c =
    steps-end c.args.s c.args.b c.if-s.false c.if-b-eq10.true _ c.closed.ensures

pub returns-then-b-eq13 : goal.returns-then-b-eq13
returns-then-b-eq13 c =
    steps-cr c.args.s c.args.b c.if-s.false c.if-b-eq10.false _ c.released-p.ensures c.if-b-eq13.true _ c.marked.ensures

pub returns : goal.returns
returns c =
    let released = c.released-p in
    steps_on c.args.s c.args.b c.if-s.false c.if-b-eq10.false released.result released.ensures c.if-b-eq13.false _ c.on_byte.ensures _ c.marked-2.ensures
