-- `plan_lines::cost` meets its contract. The words behind the number go where its digits ended.
use Rattle.std.proofs.Common.{arith, rules}
use Rattle.paper.specs.Text.{text}
use Rattle.stores.proofs.Stores.{wrote_then}
use Rattle.put_bytes.proofs.Short.{named-short}
use Rattle.plan_lines.proofs.Lines.{cost-parts}
use Rattle.plan_lines.proofs.cost.Goals as goal

pub put_text-requires : goal.put_text-requires
put_text-requires c =
    omega (arith, c.put_named-end.ensures.counted, named-short (text "; cost = ") c.args.n (search rules), c.requires)

pub returns : goal.returns
returns c =
    rw (← cost-parts c.args.n) (wrote_then c.put_named-end.ensures c.put_text.ensures)
