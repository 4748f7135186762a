use Rattle.std.proofs.Common.{◌∙◌}
use Rattle.remaining.proofs.Writing.{zeros-left}
use Rattle.remaining.proofs.Saying.{room-refused, room-written}
use Rattle.remaining.proofs.finish.Goals as goal

pub returns-then-out-count : goal.returns-then-out-count
returns-then-out-count c =
    room-refused _ c.args.gone.now _ c.requires.1 _ (c.count_left-count.ensures ∙ zeros-left _ _ c.requires.0) c.if-out-count.true

pub write_left-requires : goal.write_left-requires
write_left-requires c =
    record { long = c.requires.0; counted = c.count_left-count.ensures ∙ zeros-left _ _ c.requires.0; room = c.if-out-count.false }

pub returns : goal.returns
returns c =
    room-written _ c.args.gone.now _ c.requires.1 _ _ c.requires.2 (c.count_left-count.ensures ∙ zeros-left _ _ c.requires.0) c.if-out-count.false c.write_left.ensures
