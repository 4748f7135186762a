-- `edges::keep` meets its contract.
use Rattle.std.proofs.Common.{rules}
use Rattle.survey.specs.Narrow.{narrow}
use Rattle.edges.proofs.Storing.{stored-off, stored_on}
use Rattle.edges.proofs.keep.Goals as goal

pub returns-then-at-count : goal.returns-then-at-count
returns-then-at-count c =
    let narrow = c.narrow in
    let if1 = c.if-at-count in
    let count2 = c.count in
    let count = c.count-at in
    stored_on c.args.s c.args.r c.args.ends.now _ _ count.ensures count2.ensures if1.true _ _ narrow.ensures c.narrow-then-at-count.ensures _ _ c.store.ensures c.store-then-at-count.ensures

pub returns-else-at-count : goal.returns-else-at-count
returns-else-at-count c =
    stored-off c.args.s c.args.r c.args.ends.now _ _ c.count-at.ensures c.count.ensures c.if-at-count.false
