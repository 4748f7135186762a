use Rattle.std.proofs.Common.{rules}
use Rattle.sheets.proofs.Cut.{cut_off}
use Rattle.sheets.proofs.fill.Goals as goal

pub returns : goal.returns
returns c = cut_off c.args.held.count c.args.held.lines c.args.lines.now _ (search rules) c.copy.ensures
