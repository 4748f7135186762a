-- `acting::make_room` meets its contract. The paper's vacate gives crossings exactly where the answer has a count, and fewer of them than there are bays.
use Rattle.std.proofs.Common.{rules}
use Rattle.acting.proofs.Acting.{room-acts, room_within, filled_in}
use Rattle.acting.proofs.make_room.Goals as goal

pub vacate-answer-requires : goal.vacate-answer-requires
vacate-answer-requires c =
    let p = c.requires.ready in
    let z = c.requires.room_asks in
    record {
      most = p.most;
      inside = z.inside;
      table_size = p.table_size;
      held_size = z.held_size;
      empty_size = p.empty_size;
      placed = p.placed;
      shown = z.shown;
      levelled = p.levelled;
    }

pub counted-requires : goal.counted-requires
counted-requires c =
    let p = c.requires in
    let v = c.vacate-answer in
    (p.ready.most, p.ready.table_size, filled_in v.result p.ready.placed.apart p.room_asks.inside (v.ensures p.room_asks.shown))

pub returns : goal.returns
returns c =
    let p = c.requires in
    let v = c.vacate-answer in
    let z = p.room_asks in
    record {
      few = room_within p.ready.most v.result c.counted.result (v.ensures z.shown) (c.counted.ensures (record { yard = z.shown.yard; joins = z.shown.joins }));
      acts = λ s. room-acts v.result c.counted.result (v.ensures s) (c.counted.ensures (record { yard = s.yard; joins = s.joins }));
    }
