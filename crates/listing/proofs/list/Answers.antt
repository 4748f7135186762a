-- `listing::list` meets its contract.
use Rattle.std.proofs.Common.{rules}
use Rattle.listing.proofs.Saying.{list-short, list-short-2, list-fits, list-bad}
use Rattle.listing.proofs.list.Goals as goal

pub returns-then-starts-needed : goal.returns-then-starts-needed
returns-then-starts-needed c = list-short c.read-found.ensures _ _ _ c.in-Ok.is c.if-starts-needed.true

pub returns-then-goals-needed : goal.returns-then-goals-needed
returns-then-goals-needed c = list-short-2 c.read-found.ensures _ _ _ c.in-Ok.is c.if-goals-needed.true

pub returns-else-goals-needed : goal.returns-else-goals-needed
returns-else-goals-needed c =
    let if1 = c.if-starts-needed in
    let read = c.read-found in
    list-fits read.ensures _ _ _ c.in-Ok.is if1.false c.if-goals-needed.false c.read.ensures

pub returns-in-Err : goal.returns-in-Err
returns-in-Err c = list-bad c.read-found.ensures _ _ _ c.in-Err.is
