-- What is left of both lists decides, as proofs/Comparing has it. Arrays of one type are as long.
use Rattle.std.proofs.Common.{rules}
use Rattle.same_lines.proofs.Comparing.{lines_start, lines-miscounted, lines-differ, lines-on, lines_end, line-other, line-alike}
use Rattle.same_lines.proofs.same_lines.Goals as goal

pub returns-then-lent-fresh : goal.returns-then-lent-fresh
returns-then-lent-fresh c =
    lines-miscounted c.args.lent c.args.a c.args.fresh c.args.b (search rules) (search rules) c.requires c.if-lent-fresh.true

pub loop-c-init : goal.loop-c-init
loop-c-init c =
    lines_start c.args.lent c.args.a c.args.fresh c.args.b (search rules) (search rules) c.requires c.if-lent-fresh.false

pub returns-then-ne : goal.returns-then-ne
returns-then-ne c =
    lines-differ c.args.lent c.args.a c.args.fresh c.args.b (search rules) (search rules) c.requires c.loop-c.c c.loop-c.invariant _ c.loop-c-test.true
    (line-other _ _ _ c.ne.ensures c.if-ne.true)

pub loop-c-preserved : goal.loop-c-preserved
loop-c-preserved c =
    lines-on c.args.lent c.args.a c.args.fresh c.args.b (search rules) (search rules) c.requires c.loop-c.c c.loop-c.invariant _ c.loop-c-test.true
    (line-alike _ _ _ c.ne.ensures c.if-ne.false)

pub returns : goal.returns
returns c =
    lines_end c.args.lent c.args.a c.args.fresh c.args.b (search rules) (search rules) c.requires c.loop-c.c c.loop-c.invariant c.loop-c-test.false
