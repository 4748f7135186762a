use Rattle.std.proofs.Common.{rules}
use Rattle.held_lines.proofs.Laid.{all_copied}
use Rattle.sheets.proofs.Cut.{cut_off}
use Rattle.sheets.proofs.gather.Goals as goal

pub returns : goal.returns
returns c =
    rw (c.hold.ensures, cut_off c.top-top.result c.args.lines.now c.no_lines-kept.result _ (search rules) c.copy.ensures, c.top-top.ensures, c.no_lines-kept.ensures) (all_copied c.args.lines.now)
