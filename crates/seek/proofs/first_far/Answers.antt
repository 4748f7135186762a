-- `seek::first_far` meets its contract.
use Rattle.std.proofs.Common.{refl, arith, rules}
use Rattle.seek.proofs.first_far.Goals as goal

pub returns-then-d-k : goal.returns-then-d-k
returns-then-d-k c = record { upto = omega arith; hit = λ h. absurd (omega arith); none_near = λ h. refl; lowest = λ h. absurd (omega (arith, c.if-d-k.true)) }

pub returns : goal.returns
returns c =
    let l = c.next_from.ensures in
    record { upto = l.upto; hit = l.hit; none_near = λ h. absurd (omega (arith, h, c.if-d-k.false)); lowest = λ h. l }
