-- With no bay in both rows there is none to choose.
use Rattle.std.proofs.Common.{sym, ◌∙◌}
use Rattle.choice.proofs.Taking.{none_passes}
use Rattle.choice.proofs.common.Goals as goal

pub returns-then-not-meets : goal.returns-then-not-meets
returns-then-not-meets c = none_passes _ _ (sym c.meets.ensures ∙ c.if-not-meets.true)
