-- `survey_lines::rail` meets its contract.
use Rattle.std.proofs.Common.{refl, ◌+◌, arith, rules}
use Rattle.paper.specs.Text.{text}
use Rattle.put_bytes.proofs.Short.{named-short}
use Rattle.survey_lines.proofs.Parts.{rail-done}
use Rattle.survey_lines.proofs.rail.Goals as goal

pub put_named-to-requires : goal.put_named-to-requires
put_named-to-requires c =
    omega (arith, c.put_named-from.ensures.counted, named-short (text "e ") (c.args.a + 1) (search rules), c.requires)

pub put_text-requires : goal.put_text-requires
put_text-requires c =
    let put-named = c.put_named-from in
    omega (arith, put-named.ensures.counted, c.put_named-to.ensures.counted, named-short (text "e ") (c.args.a + 1) (search rules), named-short (text " ") (c.args.b + 1) (search rules), c.requires)

pub returns : goal.returns
returns c =
    let put-named = c.put_named-from in
    rail-done (c.args.a + 1) (c.args.b + 1) (search rules, search rules) c.args.a c.args.b refl refl put-named.ensures c.put_named-to.ensures c.put_text.ensures
