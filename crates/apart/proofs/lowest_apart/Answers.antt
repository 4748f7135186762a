use Rattle.std.proofs.Common.{arith}
use Rattle.first_bad.proofs.Firsts.{finds-at, finds-none}
use Rattle.apart.proofs.Full.{full}
use Rattle.apart.proofs.Reaching.{apart-there, apart-nowhere, left_out, left_in}
use Rattle.apart.proofs.lowest_apart.Goals as goal

pub returns-then-lowest-n : goal.returns-then-lowest-n
returns-then-lowest-n c =
    let taken = c.minus.ensures in
    let found = c.next_from-lowest.ensures in
    let most = c.requires.1 in
    λ Y t. finds-at _ _ _
    (apart-there Y _ _ _ most c.reach.ensures t _
    (λ h. left_out _ _ _ full taken _ found (omega (arith, h, most)))
    (λ k h l. left_in _ _ _ full taken _ found k l)
    c.if-lowest-n.true)
    c.if-lowest-n.true

pub returns : goal.returns
returns c =
    let taken = c.minus.ensures in
    let found = c.next_from-lowest.ensures in
    let most = c.requires.1 in
    λ Y t. finds-none _ _
    (apart-nowhere Y _ _ _ most c.reach.ensures t _
    (λ h. left_out _ _ _ full taken _ found (omega (arith, h, most)))
    (λ k h l. left_in _ _ _ full taken _ found k l)
    c.if-lowest-n.false)
