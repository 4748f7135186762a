-- The first word that shares a bit has the lowest at its trailing zeros.
use Rattle.std.proofs.Common.{◌+◌, ◌*◌, arith}
use Rattle.std.specs.Int.Bits.{and_lt}
use Rattle.paper.specs.Basics.{◌and◌}
use Rattle.words.specs.Sets.{mem_row, words, span}
use Rattle.words.proofs.Loops.{lowest-on, lowest-whole, common-word}
use Rattle.words.proofs.lowest_common.Goals as goal

pub returns-then-both-ne0 : goal.returns-then-both-ne0
returns-then-both-ne0 c =
    let a = c.args in
    let i = c.loop-i.i in
    rw c.lowest_of.ensures
    (lowest-whole (λ x. mem_row a.s.now a.a x and mem_row a.t.now a.b x) i _ span (omega arith) (omega arith)
    (and_lt 64 _ _ (c.type_inv.s (a.a * words + i)).fits (c.type_inv.t (a.b * words + i)).fits)
    (λ k h. common-word a.s.now a.a a.t.now a.b i k h) c.loop-i.invariant)

pub loop-i-preserved : goal.loop-i-preserved
loop-i-preserved c =
    let a = c.args in
    let i = c.loop-i.i in
    lowest-on (λ x. mem_row a.s.now a.a x and mem_row a.t.now a.b x) 0 i _ 0 (omega arith) c.if-both-ne0.false
    (λ k h. common-word a.s.now a.a a.t.now a.b i k h) (λ k g q. c.loop-i.invariant k g (omega arith))
