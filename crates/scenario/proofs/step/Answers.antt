-- by the byte: an LF, a CR, another; nothing moves a broken scenario.
use Rattle.scenario.proofs.Stepping.{steps-failed, steps-end, steps-cr, steps_on}
use Rattle.scenario.proofs.step.Goals as goal

pub returns-then-s : goal.returns-then-s
returns-then-s c = λ o. steps-failed c.args.cells.now c.args.grid c.args.s c.args.b o c.if-s.true

pub returns-then-b-eq10 : goal.returns-then-b-eq10
returns-then-b-eq10 c =
    λ o. steps-end c.args.cells.now c.args.grid c.args.s c.args.b o c.if-s.false c.if-b-eq10.true _ (c.closed.ensures o)

pub returns-then-b-eq13 : goal.returns-then-b-eq13
returns-then-b-eq13 c =
    λ o. steps-cr c.args.cells.now c.args.grid c.args.s c.args.b o c.if-s.false c.if-b-eq10.false _ c.released-u.ensures c.if-b-eq13.true _ c.marked.ensures

pub returns : goal.returns
returns c =
    λ o. steps_on c.args.cells.now c.args.grid c.args.s c.args.b o c.if-s.false c.if-b-eq10.false _ c.released-u.ensures c.if-b-eq13.false _ c.on_byte.ensures _ c.marked-2.ensures
