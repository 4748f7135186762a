-- broken before, in a line, between lines.
use Rattle.scenario.proofs.Ending.{finishes-failed, finishes-between, finishes-line}
use Rattle.scenario.proofs.finished.Goals as goal

pub returns-then-s : goal.returns-then-s
returns-then-s c = λ o. finishes-failed c.args.cells.now c.args.grid c.args.s o c.if-s.true

pub returns-then-s-2 : goal.returns-then-s-2
returns-then-s-2 c =
    λ o. finishes-line c.args.cells.now c.args.grid c.args.s c.if-s.false c.if-s-2.true o _ c.released.ensures _ c.closed.ensures

pub returns : goal.returns
returns c =
    λ o. finishes-between c.args.cells.now c.args.grid c.args.s c.if-s.false o c.if-s-2.false
