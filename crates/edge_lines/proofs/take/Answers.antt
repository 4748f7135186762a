-- `edge_lines::take` meets its contract.
use Rattle.std.proofs.Common.{rules}
use Rattle.edge_lines.proofs.Closing.{takes-head, takes-more, takes-zero, takes-zero-2, takes-rail}
use Rattle.edge_lines.proofs.take.Goals as goal

pub returns-then-n-ge1 : goal.returns-then-n-ge1
returns-then-n-ge1 c =
    takes-rail c.args.s _ c.args.p c.args.n _ _ _ c.in-Rails.is c.if-ends-rails.true c.if-p-ge1.true c.if-n-ge1.true c.opened-then-n-ge1.ensures

pub returns-then-p-ge1 : goal.returns-then-p-ge1
returns-then-p-ge1 c =
    takes-zero-2 c.args.s _ c.args.p c.args.n _ _ _ c.in-Rails.is c.if-n-ge1.false c.broken.ensures

pub returns-then-ends-rails : goal.returns-then-ends-rails
returns-then-ends-rails c =
    takes-zero c.args.s _ c.args.p c.args.n _ _ _ c.in-Rails.is c.if-p-ge1.false c.broken-then-ends-rails.ensures

pub returns-in-Head : goal.returns-in-Head
returns-in-Head c =
    takes-head c.args.s _ c.args.p c.args.n _ _ c.in-Head.is c.opened.ensures

pub returns-else-ends-rails : goal.returns-else-ends-rails
returns-else-ends-rails c =
    takes-more c.args.s _ c.args.p c.args.n _ _ _ c.in-Rails.is c.if-ends-rails.false c.broken-in-Rails.ensures
