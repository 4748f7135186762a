-- `handing::text` meets its contract: it is copied if it fits.
use Rattle.std.proofs.Common.{refl, ◌∙◌, rules}
use Rattle.handing.proofs.Fitting.{fits, short}
use Rattle.handing.proofs.text.Goals as goal

pub returns-then-n-out : goal.returns-then-n-out
returns-then-n-out c = record { counted = refl; leaves = c.copy.ensures ∙ fits _ _ c.if-n-out.true }

pub returns-else-n-out : goal.returns-else-n-out
returns-else-n-out c = record { counted = refl; leaves = short _ _ c.if-n-out.false }
