-- `survey_lines::write` meets its contract.
use Rattle.std.proofs.Common.{rules}
use Rattle.stores.proofs.Stores.{wrote_then}
use Rattle.survey_lines.proofs.Parts.{file-parts}
use Rattle.survey_lines.proofs.write.Goals as goal

pub returns : goal.returns
returns c =
    record { wrote = rw (← file-parts c.args.bays c.args.rails.now) (wrote_then c.head-end.ensures.0 c.rails_from.ensures.wrote); short = c.rails_from.ensures.short }
