-- `acting::tally_filled` meets its contract. One is counted exactly if the bay is a junction.
use Rattle.std.proofs.Common.{refl, sym, ◌∙◌, rules}
use Rattle.acting.proofs.Junctions.{parks-one, parks-none}
use Rattle.acting.proofs.tally_filled.Goals as goal

pub returns-then-is_junction : goal.returns-then-is_junction
returns-then-is_junction c = (refl, λ t. parks-one t.yard _ (sym (c.is_junction.ensures t) ∙ c.if-is_junction.true))

pub returns : goal.returns
returns c = (refl, λ t. parks-none t.yard _ (sym (c.is_junction.ensures t) ∙ c.if-is_junction.false))
