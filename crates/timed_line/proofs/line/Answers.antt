-- `timed_line::line` meets its contract. Each number goes where the one before it ended; a line has at most 100 bytes.
use Rattle.std.proofs.Common.{arith, rules}
use Rattle.paper.specs.Text.{text}
use Rattle.docket.specs.Reading.{crossing_of}
use Rattle.stores.proofs.Stores.{wrote_then}
use Rattle.laws.proofs.Digits.{decimal-short}
use Rattle.put_bytes.proofs.Short.{named-short}
use Rattle.timed_line.proofs.Parts.{line-parts}
use Rattle.timed_line.proofs.line.Goals as goal

pub put_named-carrier-requires : goal.put_named-carrier-requires
put_named-carrier-requires c =
    let t = c.time_of in
    omega (arith, c.put_number-time.ensures.counted, decimal-short t.result (omega (arith, t.ensures.small)), c.requires)

pub put_named-from-requires : goal.put_named-from-requires
put_named-from-requires c =
    let put-number = c.put_number-time in
    let t = c.time_of in
    omega (arith, put-number.ensures.counted, decimal-short t.result (omega (arith, t.ensures.small)), c.put_named-carrier.ensures.counted, named-short (text ": (move c") c.args.x.carrier.0 (search rules), c.requires)

pub put_named-to-requires : goal.put_named-to-requires
put_named-to-requires c =
    let put-named = c.put_named-carrier in
    let put-number = c.put_number-time in
    let t = c.time_of in
    omega (arith, put-number.ensures.counted, decimal-short t.result (omega (arith, t.ensures.small)), put-named.ensures.counted, named-short (text ": (move c") c.args.x.carrier.0 (search rules), c.put_named-from.ensures.counted, named-short (text " b") c.args.x.from.0 (search rules), c.requires)

pub put_text-requires : goal.put_text-requires
put_text-requires c =
    let put-named2 = c.put_named-from in
    let put-named = c.put_named-carrier in
    let put-number = c.put_number-time in
    let t = c.time_of in
    omega (arith, put-number.ensures.counted, decimal-short t.result (omega (arith, t.ensures.small)), put-named.ensures.counted, named-short (text ": (move c") c.args.x.carrier.0 (search rules), put-named2.ensures.counted, named-short (text " b") c.args.x.from.0 (search rules), c.put_named-to.ensures.counted, named-short (text " b") c.args.x.to.0 (search rules), c.requires)

pub returns : goal.returns
returns c =
    let put-named2 = c.put_named-from in
    let put-named = c.put_named-carrier in
    let put-number = c.put_number-time in
    let time-of = c.time_of in
    let s = c.args in
    let time = rw time-of.ensures.value at put-number.ensures in
    rw (← line-parts s.slot (crossing_of s.x))
    (wrote_then (wrote_then (wrote_then (wrote_then time put-named.ensures) put-named2.ensures) c.put_named-to.ensures) c.put_text.ensures)
