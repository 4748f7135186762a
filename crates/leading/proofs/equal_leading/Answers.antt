use Rattle.std.proofs.Common.{◌≡◌, ◌∙◌, arith}
use Rattle.leading.proofs.Passing.{passing-stops, passing-on, passing-ends}
use Rattle.leading.proofs.equal_leading.Goals as goal

pub returns-then-first-equal : goal.returns-then-first-equal
returns-then-first-equal c = passing-stops _ _ _ c.loop-equal.invariant (omega arith) (omega arith) c.if-first-equal.true

pub loop-equal-preserved : goal.loop-equal-preserved
loop-equal-preserved c = passing-on _ _ _ c.loop-equal.invariant (omega arith) (omega arith) c.if-first-equal.false

pub returns : goal.returns
returns c = let all : c.min-both.result ≡ c.loop-equal.equal = omega arith in all ∙ passing-ends _ _ _ c.loop-equal.invariant (omega arith)
