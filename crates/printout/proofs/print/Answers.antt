-- `printout::print` meets its contract, by the flag.
use Rattle.std.proofs.Common.{rules}
use Rattle.printout.proofs.print.Goals as goal

-- src/lib.rt:21:9
pub returns-then-short : goal.returns-then-short
returns-then-short c = rw c.if-short.true c.program_short.ensures

-- src/lib.rt:10:1
pub returns : goal.returns
returns c = rw c.if-short.false c.program.ensures
