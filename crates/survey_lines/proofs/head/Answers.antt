-- `survey_lines::head` meets its contract.
use Rattle.std.proofs.Common.{arith, rules}
use Rattle.paper.specs.Text.{text}
use Rattle.put_bytes.proofs.Short.{named-short}
use Rattle.survey_lines.proofs.Parts.{head_done}
use Rattle.survey_lines.proofs.head.Goals as goal

pub put_named-second-requires : goal.put_named-second-requires
put_named-second-requires c =
    omega (arith, c.put_named-first.ensures.counted, named-short (text "p edge ") c.args.bays (search rules))

pub put_text-requires : goal.put_text-requires
put_text-requires c =
    let put-named = c.put_named-first in
    omega (arith, put-named.ensures.counted, c.put_named-second.ensures.counted, named-short (text "p edge ") c.args.bays (search rules), named-short (text " ") c.args.rails (search rules))

pub returns : goal.returns
returns c =
    let put-named = c.put_named-first in
    head_done c.args.bays c.args.rails (search rules, search rules) put-named.ensures c.put_named-second.ensures c.put_text.ensures
