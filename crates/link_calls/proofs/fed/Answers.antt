-- `link_calls::fed` meets its contract.
use Rattle.std.proofs.Common.{sym, rules}
use Rattle.link.proofs.Calling.{fed-broken, fed-on}
use Rattle.link_calls.proofs.fed.Goals as goal

pub returns-then-r : goal.returns-then-r
returns-then-r c =
    let reading = c.reading in
    fed-broken c.args.link c.args.bytes.now (search rules) (search rules) _ _ reading.ensures c.feed-r.ensures _ c.keep-k.ensures c.if-r.true

pub returns : goal.returns
returns c =
    let reading = c.reading in
    fed-on c.args.link c.args.bytes.now (search rules) (search rules) _ _ reading.ensures c.feed-r.ensures _ c.keep-k.ensures c.if-r.false
