-- The words or-ed together tell what each of them would.
use Rattle.std.proofs.Common.{◌≡◌, ◌+◌, ◌*◌, arith}
use Rattle.std.specs.Int.Bits.{and_lt}
use Rattle.words.specs.Sets.{words, span}
use Rattle.words.proofs.Loops.{common-word}
use Rattle.words.proofs.Meeting.{told_none, told_more, told-some}
use Rattle.words.proofs.meets.Goals as goal

pub loop-i-init : goal.loop-i-init
loop-i-init c = told_none _

pub loop-i-preserved : goal.loop-i-preserved
loop-i-preserved c =
    let a = c.args in
    let i = c.loop-i.i in
    told_more _ _ i _ (and_lt 64 _ _ (c.type_inv.s (a.a * words + i)).fits (c.type_inv.t (a.b * words + i)).fits)
    (λ k h. common-word a.s.now a.a a.t.now a.b i k h) c.loop-i.invariant

pub returns : goal.returns
returns c = let e : c.loop-i.i * 64 ≡ span = omega arith in told-some _ _ _ (rw e at c.loop-i.invariant)
