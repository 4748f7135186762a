-- `carrier_lists::counted` meets its contract.
use Rattle.std.proofs.Common.{rules}
use Rattle.carrier_lists.proofs.Counting.{counted-below, counted-above}
use Rattle.carrier_lists.proofs.counted.Goals as goal

pub returns-then-count-lt-MOST : goal.returns-then-count-lt-MOST
returns-then-count-lt-MOST c = counted-below _ _ c.if-version.false c.if-count-lt-MOST.true

pub returns-else-count-lt-MOST : goal.returns-else-count-lt-MOST
returns-else-count-lt-MOST c = counted-above _ _ c.if-version.false c.if-count-lt-MOST.false
