-- `edges::answer` meets its contract.
use Rattle.std.proofs.Common.{rules, eq-eqb, ne_eqb}
use Rattle.edges.proofs.answer.Goals as goal

pub returns-then-s : goal.returns-then-s
returns-then-s c = rw c.if-s.true

pub returns-then-ends-rails : goal.returns-then-ends-rails
returns-then-ends-rails c = rw (c.if-s.false, c.in-Rails.is, eq-eqb _ _ c.if-ends-rails.true)

pub returns-in-Head : goal.returns-in-Head
returns-in-Head c = rw (c.if-s.false, c.in-Head.is)

pub returns-else-ends-rails : goal.returns-else-ends-rails
returns-else-ends-rails c = rw (c.if-s.false, c.in-Rails.is, ne_eqb _ _ c.if-ends-rails.false)
