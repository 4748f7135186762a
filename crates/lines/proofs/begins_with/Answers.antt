-- `starts_with` compares the first bytes pair by pair.
use Rattle.std.proofs.Common.{◌∙◌}
use Rattle.lines.proofs.Words.{begins-pairs}
use Rattle.lines.proofs.begins_with.Goals as goal

pub returns : goal.returns
returns c = c.starts_with.ensures.value ∙ begins-pairs _ _
