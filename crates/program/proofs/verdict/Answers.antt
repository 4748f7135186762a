-- `program::verdict` meets its contract, one case for each answer.
use Rattle.std.proofs.Common.{sym, ap, rules}
use Rattle.program.specs.Planning.{verdict_in}
use Rattle.program.proofs.verdict.Goals as goal

pub returns-in-Ok : goal.returns-in-Ok
returns-in-Ok c = sym (ap verdict_in c.in-Ok.is)

pub returns-in-Err : goal.returns-in-Err
returns-in-Err c = sym (ap verdict_in c.in-Err.is)
