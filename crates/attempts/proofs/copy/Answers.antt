use Rattle.std.proofs.Common.{◌≡◌, refl, ◌≤◌, ◌-◌, arith, length, take, rules}
use Rattle.attempts.proofs.Attempting.{copy_more, copied}
use Rattle.attempts.proofs.copy.Goals as goal

pub loop-i-init : goal.loop-i-init
loop-i-init c = (omega arith, refl, refl)

pub loop-i-preserved : goal.loop-i-preserved
loop-i-preserved c = (omega arith, search rules, copy_more _ _ _ c.loop-i-test.true (omega (arith, c.requires, c.loop-i.invariant.1, c.loop-i-test.true)) c.loop-i.invariant.2)

pub returns : goal.returns
returns c = copied _ _ _ c.loop-i.invariant.0 c.loop-i-test.false c.loop-i.invariant.2
