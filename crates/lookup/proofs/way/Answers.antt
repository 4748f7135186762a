-- What is taken of the bays in the first level that has one is the nearest, and the path led to it is the shortest.
use Rattle.std.proofs.Common.{refl, arith}
use Rattle.lookup.proofs.Looking.{looked, level-rowed, end_short, distant, way-told}
use Rattle.lookup.proofs.way.Goals as goal

pub common-requires : goal.common-requires
common-requires c =
    let p = c.requires in
    let lent = p.way.lent in
    (omega arith, omega arith, level-rowed lent.shown lent.most p.levelled _ p.way.inside _ _ c.if-table-j.false lent.table_size)

pub lead-requires : goal.lead-requires
lead-requires c =
    let p = c.requires in
    let lent = p.way.lent in
    let g = looked lent.most p.levelled p.way.inside p.unwanted c.keep.ensures c.minus.ensures c.first_level-j.ensures c.if-table-j.false c.common.ensures in
    record {
      most = lent.most;
      apart = omega arith;
      short = end_short lent.shown g;
      levels_size = c.if-table-j.false;
      held_size = lent.held_size;
      unheld = p.way.unheld;
      room = p.way.room;
      distant = distant lent.shown g;
    }

pub returns-then-lead : goal.returns-then-lead
returns-then-lead c =
    let p = c.requires in
    let g = looked p.way.lent.most p.levelled p.way.inside p.unwanted c.keep.ensures c.minus.ensures c.first_level-j.ensures c.if-table-j.false c.common.ensures in
    record { tells = λ s q w. way-told s g _ (c.lead.ensures.leads (distant s g) c.if-lead.true) q w _ refl }
