-- Up to the first LF is one line, without a CR at its end; without an LF the rest is the last line.
use Rattle.std.proofs.Common.{arith}
use Rattle.lines.proofs.Cut.{text-cr, text-lf, text-empty, text-last, line-none, found, ended}
use Rattle.lines.proofs.next_line.Goals as goal

pub returns-then-file-end-eq13 : goal.returns-then-file-end-eq13
returns-then-file-end-eq13 c =
    found (text-cr _ _ _ c.line_end-end.ensures (omega arith) (omega arith) c.if-file-end-eq13.true)

pub returns-then-at-end : goal.returns-then-at-end
returns-then-at-end c =
    found (text-lf _ _ _ c.line_end-end.ensures (omega arith) (omega arith) c.if-file-end-eq13.false)

pub returns-then-end-file : goal.returns-then-end-file
returns-then-end-file c = found (text-empty _ _ _ c.line_end-end.ensures (omega arith) (omega arith))

pub returns-then-at-end-2 : goal.returns-then-at-end-2
returns-then-at-end-2 c = found (text-last _ _ _ c.line_end-end.ensures (omega arith) (omega arith))

pub returns : goal.returns
returns c = ended (line-none _ _ _ c.line_end-end.ensures (omega arith) (omega arith))
