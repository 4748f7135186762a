-- `plans::crossing_at` meets its contract: the crossing of a name is what the number at that place reads as.
use Rattle.std.proofs.Common.{sym, ◌∙◌, rules}
use Rattle.paper.proofs.Packing.{named-is}
use Rattle.plans.proofs.crossing_at.Goals as goal

pub returns : goal.returns
returns c =
    let s = c.before.before.before in
    c.unpack.ensures ∙ sym (named-is s.args.plan.now s.args.name)
