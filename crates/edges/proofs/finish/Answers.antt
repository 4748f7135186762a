-- `edges::finish` meets its contract.
use Rattle.std.proofs.Common.{◌∙◌, ap, length, rules}
use Rattle.edges.proofs.Storing.{stored-length, reads_all}
use Rattle.edges.proofs.finish.Goals as goal

pub returns : goal.returns
returns c =
    let keep = c.keep in
    record { sized = ap length keep.ensures ∙ stored-length c.args.s _ c.args.ends.now; ends = λ t before small came. reads_all t c.args.s before c.args.ends.now _ _ _ small came c.finished-last.ensures keep.ensures c.answer.ensures }
