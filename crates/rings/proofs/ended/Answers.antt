-- `rings::ended` meets its contract.
use Rattle.std.proofs.Common.{inl, inr, arith, rules}
use Rattle.rings.proofs.Reading.{ends_nowhere, ends-farther}
use Rattle.rings.proofs.ended.Goals as goal

pub returns-then-n-d : goal.returns-then-n-d
returns-then-n-d c = ends_nowhere (inl c.if-n-d.true)

pub returns-then-rows-d : goal.returns-then-rows-d
returns-then-rows-d c = ends-farther (omega (arith, c.if-rows-d.true, c.if-n-d.false))

pub returns : goal.returns
returns c = ends_nowhere (inr c.if-rows-d.false)
