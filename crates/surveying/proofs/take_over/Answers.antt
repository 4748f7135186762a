-- `surveying::take_over` meets its contract.
use Rattle.std.proofs.Common.{sym, ap, length-take-le}
use Rattle.docket.specs.Reading.{verdict_of}
use Rattle.surveying.proofs.Telling.{take_long, take_whole}
use Rattle.surveying.proofs.take_over.Goals as goal

pub returns-then-room-count : goal.returns-then-room-count
returns-then-room-count c =
    take_long c.args.bays c.args.count c.args.room.now c.args.rails.now _ c.if-room-count.true c.refused.ensures.bays (ap verdict_of c.refused.ensures.verdict)

pub slice_bounds-accept-end : goal.slice_bounds-accept-end
slice_bounds-accept-end c =
    sym (length-take-le c.args.count c.args.room.now c.if-room-count.false)

pub returns : goal.returns
returns c =
    take_whole c.args.bays c.args.count c.args.room.now c.args.rails.now _ _ c.if-room-count.false c.accept.ensures
