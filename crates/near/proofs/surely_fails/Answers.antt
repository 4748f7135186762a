-- `near::surely_fails` meets its contract. What the outlook says of the table and the empty bays is a blocked junction in the yard.
use Rattle.std.proofs.Common.{refl, rules}
use Rattle.paper.proofs.Tests.{not-both}
use Rattle.near.proofs.Foreseeing.{outlook-asks, blocked-none}
use Rattle.near.proofs.surely_fails.Goals as goal

pub returns-then-u-v : goal.returns-then-u-v
returns-then-u-v c = λ e. not-both e refl

pub is_blocked-requires : goal.is_blocked-requires
is_blocked-requires c =
    let z = c.requires.trial_asks in
    outlook-asks c.requires.ready c.args.trial.carrier.0 c.args.trial.neighbour.0 c.args.trial.junction.0 z.first z.second z.inside

pub returns : goal.returns
returns c =
    let z = c.requires.trial_asks in
    λ e t near. blocked-none t c.requires.ready.placed _ _ _ z.first z.second z.differ z.inside near (c.is_blocked.ensures e)
