-- What is carried stands behind the number, where there is any.
use Rattle.std.proofs.Common.{sym, ◌∙◌, arith, rules}
use Rattle.paper.specs.Text.{text}
use Rattle.docket.specs.Reading.{refusal_of}
use Rattle.stores.proofs.Stores.{wrote_then}
use Rattle.put_bytes.proofs.Short.{named-short}
use Rattle.printing.proofs.Lines.{refusal-plain, refusal-carried, some-carried, none-carried}
use Rattle.printing.proofs.refusal.Goals as goal

pub put_named-after-requires : goal.put_named-after-requires
put_named-after-requires c =
    let number = c.number in
    omega (arith, c.put_named-end.ensures.counted, named-short (text "; refused ") number.result (search rules))

pub put_text-requires : goal.put_text-requires
put_text-requires c =
    let put-named = c.put_named-end in
    let number = c.number in
    omega (arith, c.put_named-after.ensures.counted, put-named.ensures.counted, named-short (text "; refused ") number.result (search rules), named-short (text " ") c.carried.result (search rules))

pub returns-then-carries : goal.returns-then-carries
returns-then-carries c =
    let put-named2 = c.put_named-after in
    let carried = c.carried in
    let if1 = c.if-carries in
    let carries = c.carries in
    let put-named = c.put_named-end in
    let number = c.number in
    (rw (← refusal-carried (refusal_of c.args.r) carried.result (some-carried _ _ (sym carries.ensures ∙ if1.true) carried.ensures), ← number.ensures) (wrote_then (wrote_then put-named.ensures put-named2.ensures) c.put_text.ensures), omega (arith, c.put_text.ensures.counted, put-named2.ensures.counted, put-named.ensures.counted, named-short (text "; refused ") number.result (search rules), named-short (text " ") carried.result (search rules)))

pub put_text-requires-2 : goal.put_text-requires-2
put_text-requires-2 c = omega (arith, c.put_named-end.ensures.counted, named-short (text "; refused ") c.number.result (search rules))

pub returns : goal.returns
returns c =
    let put-named = c.put_named-end in
    let number = c.number in
    (rw (← refusal-plain (refusal_of c.args.r) (none-carried _ (sym c.carries.ensures ∙ c.if-carries.false)), ← number.ensures) (wrote_then put-named.ensures c.put_text-2.ensures), omega (arith, c.put_text-2.ensures.counted, put-named.ensures.counted, named-short (text "; refused ") number.result (search rules)))
