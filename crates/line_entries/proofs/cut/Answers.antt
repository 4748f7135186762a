use Rattle.std.proofs.Common.{◌≡◌, length, arith}
use Rattle.line_entries.proofs.Pieces.{passed-one, cut-found, cut-none}
use Rattle.line_entries.proofs.cut.Goals as goal

pub returns-then-x-b : goal.returns-then-x-b
returns-then-x-b c =
    cut-found c.args.b c.args.text.now c.loop-i.i (omega arith) c.loop-i.invariant c.if-x-b.true

pub loop-i-preserved : goal.loop-i-preserved
loop-i-preserved c =
    passed-one c.args.b c.args.text.now c.loop-i.i (omega arith) c.loop-i.invariant c.if-x-b.false

pub returns : goal.returns
returns c =
    let e : c.loop-i.i ≡ length c.args.text.now = omega arith in
    rw e at (cut-none c.args.b c.args.text.now c.loop-i.i (omega arith) (omega arith) c.loop-i.invariant)
