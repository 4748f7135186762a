use Rattle.std.proofs.Common.{arith}
use Rattle.first_bad.proofs.Firsts.{finds-at, finds-none}
use Rattle.apart.proofs.Reaching.{apart-there, apart-nowhere}
use Rattle.apart.proofs.Word.{first_out, all_in}
use Rattle.apart.proofs.narrow_apart.Goals as goal

pub returns-then-first-n : goal.returns-then-first-n
returns-then-first-n c =
    let reach = c.reach_word-seen in
    let few = c.requires.1 in
    λ Y t. finds-at _ _ _
    (apart-there Y _ _ _ (omega arith) reach.ensures.0 t _
    (λ h. first_out reach.result reach.ensures.1 (omega (arith, h, few)))
    (λ k h l. all_in reach.result reach.ensures.1 k (omega (arith, h, few)) l)
    c.if-first-n.true)
    c.if-first-n.true

pub returns : goal.returns
returns c =
    let reach = c.reach_word-seen in
    let few = c.requires.1 in
    λ Y t. finds-none _ _
    (apart-nowhere Y _ _ _ (omega arith) reach.ensures.0 t _
    (λ h. first_out reach.result reach.ensures.1 (omega (arith, h, few)))
    (λ k h l. all_in reach.result reach.ensures.1 k (omega (arith, h, few)) l)
    c.if-first-n.false)
