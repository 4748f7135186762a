-- The first word that has a free bay has the lowest at its trailing zeros.
use Rattle.std.proofs.Common.{not, ◌+◌, ◌*◌, arith}
use Rattle.std.specs.Int.Bits.{and_lt}
use Rattle.paper.specs.Basics.{◌and◌}
use Rattle.words.specs.Sets.{mem, mem_row, words, span}
use Rattle.words.proofs.Loops.{lowest-on, lowest-whole, free-word}
use Rattle.words.proofs.lowest_free.Goals as goal

pub returns-then-free-ne0 : goal.returns-then-free-ne0
returns-then-free-ne0 c =
    let a = c.args in
    let i = c.loop-i.i in
    rw c.lowest_of.ensures
    (lowest-whole (λ x. mem_row a.table.now a.a x and (mem a.wanted.now x and not (mem a.held.now x))) i _ span (omega arith) (omega arith)
    (and_lt 64 _ _ (and_lt 64 _ _ (c.type_inv.table (a.a * words + i)).fits (c.type_inv.wanted i).fits) (omega arith))
    (λ k h. free-word a.table.now a.a a.wanted.now a.held.now i k h (c.type_inv.held i).fits) c.loop-i.invariant)

pub loop-i-preserved : goal.loop-i-preserved
loop-i-preserved c =
    let a = c.args in
    let i = c.loop-i.i in
    lowest-on (λ x. mem_row a.table.now a.a x and (mem a.wanted.now x and not (mem a.held.now x))) 0 i _ 0 (omega arith) c.if-free-ne0.false
    (λ k h. free-word a.table.now a.a a.wanted.now a.held.now i k h (c.type_inv.held i).fits) (λ k g q. c.loop-i.invariant k g (omega arith))
