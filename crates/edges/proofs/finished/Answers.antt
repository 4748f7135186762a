-- `edges::finished` meets its contract.
use Rattle.std.proofs.Common.{rules}
use Rattle.edges.proofs.Stepping.{finishes-failed, finishes-fresh, finishes-line}
use Rattle.edges.proofs.finished.Goals as goal

pub returns-then-s : goal.returns-then-s
returns-then-s c = finishes-failed c.args.s c.if-s.true

pub returns-then-s-2 : goal.returns-then-s-2
returns-then-s-2 c = finishes-line c.args.s c.if-s.false c.if-s-2.true _ c.released.ensures _ c.marked.ensures _ c.closed.ensures

pub returns : goal.returns
returns c = finishes-fresh c.args.s c.if-s.false c.if-s-2.false
