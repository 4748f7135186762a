-- `edges::tallied` meets its contract.
use Rattle.std.proofs.Common.{rules}
use Rattle.edges.proofs.Parts.{tally-on, tally-full, tally-high, tally-low}
use Rattle.edges.proofs.tallied.Goals as goal

pub returns-then-n-lt10000 : goal.returns-then-n-lt10000
returns-then-n-lt10000 c =
    tally-on c.args.n c.args.b c.if-b-ge48.true c.if-b-le57.true c.if-n-lt10000.true

pub returns-then-b-le57 : goal.returns-then-b-le57
returns-then-b-le57 c =
    tally-full c.args.n c.args.b c.if-n-lt10000.false

pub returns-then-b-ge48 : goal.returns-then-b-ge48
returns-then-b-ge48 c = tally-high c.args.n c.args.b c.if-b-le57.false

pub returns : goal.returns
returns c = tally-low c.args.n c.args.b c.if-b-ge48.false
