-- The words or-ed together tell what each of them would.
use Rattle.std.proofs.Common.{◌≡◌, ◌+◌, ◌*◌, arith}
use Rattle.words.specs.Sets.{span}
use Rattle.words.proofs.Sets.{word-bit}
use Rattle.words.proofs.Meeting.{told_none, told_more, told-no}
use Rattle.words.proofs.is_empty.Goals as goal

pub loop-i-init : goal.loop-i-init
loop-i-init c = told_none _

pub loop-i-preserved : goal.loop-i-preserved
loop-i-preserved c =
    let i = c.loop-i.i in
    told_more _ _ i _ (omega arith) (λ k h. let z : i * 64 + 0 + k ≡ 64 * i + k = omega arith in rw z (word-bit _ i k (omega arith))) c.loop-i.invariant

pub returns : goal.returns
returns c = let e : c.loop-i.i * 64 ≡ span = omega arith in told-no _ _ _ (rw e at c.loop-i.invariant)
