-- The answer is that of the tests; a refused yard has its table cleared after them.
use Rattle.std.proofs.Common.{arith, rules}
use Rattle.yard.proofs.Opening.{opens-cleared, opens-admitted}
use Rattle.yard.proofs.Yard.open_in.Goals as goal

pub first_six-tested-requires : goal.first_six-tested-requires
first_six-tested-requires c = (λ few. omega (arith, few), c.requires)

pub returns-in-Err : goal.returns-in-Err
returns-in-Err c = opens-cleared _ _ _ _ _ _ c.first_six-tested.ensures c.in-Err.is c.clear.ensures

pub returns : goal.returns
returns c = opens-admitted _ _ _ _ _ c.first_six-tested.ensures c.in_default.is
