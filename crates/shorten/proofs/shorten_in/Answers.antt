use Rattle.std.proofs.Common.{arith}
use Rattle.chains.proofs.Linking.{linked-fresh}
use Rattle.dropping.proofs.Looking.{look-start}
use Rattle.shorten.proofs.shorten_in.Goals as goal

pub drop_trips-requires : goal.drop_trips-requires
drop_trips-requires c =
    let long = c.set_out.auto.todo in
    (look-start c.args.plan.now c.args.gone.now _ c.requires.asked.lawful c.requires.fresh (omega (arith, c.requires.room, long)) (omega (arith, c.requires.held, long)) c.set_out.ensures, linked-fresh c.args.plan.now _ c.fill.ensures c.args.gone.now)
