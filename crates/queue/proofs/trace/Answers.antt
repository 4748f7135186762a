use Rattle.std.proofs.Common.{sym, ◌∙◌, arith}
use Rattle.queue.proofs.Reading.{read_more, read_all}
use Rattle.queue.proofs.trace.Goals as goal

pub loop-i-preserved : goal.loop-i-preserved
loop-i-preserved c =
    let l = c.loop-i in
    (c.requires.low l.u, l.invariant.1 ∙ read_more _ _ _ _ _ (omega arith) (omega arith) (omega arith))

pub returns : goal.returns
returns c = read_all _ _ _ _ _ (omega arith) (omega arith) (omega arith) ∙ sym c.loop-i.invariant.1
