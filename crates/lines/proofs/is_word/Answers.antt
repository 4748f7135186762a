-- `==` compares the bytes pair by pair.
use Rattle.std.proofs.Common.{◌∙◌}
use Rattle.lines.proofs.Words.{same-pairs}
use Rattle.lines.proofs.is_word.Goals as goal

pub returns : goal.returns
returns c = c.eq.ensures ∙ same-pairs _ _
