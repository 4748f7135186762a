-- `plan_lines::action` meets its contract. Each number goes where the one before it ended; a line has at most 73 bytes.
use Rattle.std.proofs.Common.{arith, rules}
use Rattle.paper.specs.Text.{text}
use Rattle.docket.specs.Reading.{crossing_of}
use Rattle.stores.proofs.Stores.{wrote_then}
use Rattle.put_bytes.proofs.Short.{named-short}
use Rattle.plan_lines.proofs.Lines.{action-parts}
use Rattle.plan_lines.proofs.action.Goals as goal

pub put_named-from-requires : goal.put_named-from-requires
put_named-from-requires c =
    omega (arith, c.put_named-carrier.ensures.counted, named-short (text "(move c") c.args.x.carrier.0 (search rules), c.requires)

pub put_named-to-requires : goal.put_named-to-requires
put_named-to-requires c =
    let put-named = c.put_named-carrier in
    omega (arith, c.put_named-from.ensures.counted, put-named.ensures.counted, named-short (text "(move c") c.args.x.carrier.0 (search rules), named-short (text " b") c.args.x.from.0 (search rules), c.requires)

pub put_text-requires : goal.put_text-requires
put_text-requires c =
    let put-named2 = c.put_named-from in
    let put-named = c.put_named-carrier in
    omega (arith, c.put_named-to.ensures.counted, put-named2.ensures.counted, put-named.ensures.counted, named-short (text "(move c") c.args.x.carrier.0 (search rules), named-short (text " b") c.args.x.from.0 (search rules), named-short (text " b") c.args.x.to.0 (search rules), c.requires)

pub returns : goal.returns
returns c =
    let put-named2 = c.put_named-from in
    let put-named = c.put_named-carrier in
    rw (← action-parts (crossing_of c.args.x)) (wrote_then (wrote_then (wrote_then put-named.ensures put-named2.ensures) c.put_named-to.ensures) c.put_text.ensures)
