-- `edges::read` meets its contract.
use Rattle.std.proofs.Common.{[], arith, rules}
use Rattle.edges.proofs.read.Goals as goal

pub returns : goal.returns
returns c =
    let start-2 = c.start in
    c.finish.ensures.ends c.args.file.now c.args.ends.now (omega arith) (c.feed-s.ensures.feeds [] c.args.ends.now (omega arith) (start-2.ensures c.args.ends.now))
