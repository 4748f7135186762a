-- `exchange::note` meets its contract. The number set is the crossing's.
use Rattle.std.proofs.Common.{◌∙◌, ap, set, rules}
use Rattle.exchange.proofs.note.Goals as goal

pub returns : goal.returns
returns c =
    record { stored = c.store.ensures.0 ∙ ap (set c.args.out.now c.args.at) c.pack.ensures; counted = c.store.ensures.1 }
