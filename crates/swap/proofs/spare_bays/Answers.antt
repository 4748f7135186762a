-- `swap::spare_bays` meets its contract. The lowest empty one is found, taken out, and the lowest found again.
use Rattle.std.proofs.Common.{rules}
use Rattle.swap.proofs.Besides.{two-spare, both-spare, fewer-spare}
use Rattle.swap.proofs.spare_bays.Goals as goal

pub returns-then-x-ge-SPAN : goal.returns-then-x-ge-SPAN
returns-then-x-ge-SPAN c = fewer-spare

pub returns-then-y-ge-SPAN : goal.returns-then-y-ge-SPAN
returns-then-y-ge-SPAN c = fewer-spare

pub returns : goal.returns
returns c =
    let remove = c.remove in
    let join-row = c.join_row in
    both-spare _ _ (two-spare _ _ _ _ _ _ _ join-row.ensures remove.ensures c.lowest_common-x.ensures c.if-x-ge-SPAN.false c.remove-2.ensures c.lowest_common-y.ensures c.if-y-ge-SPAN.false)
