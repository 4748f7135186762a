-- `moving::cross` meets its contract. One carrier changes its bay: its own entry, the entries of the two bays, and the two bays in the set of empty ones.
use Rattle.std.proofs.Common.{◌∙◌, arith, rules}
use Rattle.moving.proofs.Playing.{stands-there, crossed, moved_length}
use Rattle.moving.proofs.cross.Goals as goal

pub move_on-count-requires : goal.move_on-count-requires
move_on-count-requires c =
    let p = c.requires in (p.from_inside, p.to_inside, stands-there p.placed p.full p.from_inside, p.counts)

pub overflow_cast-standing : goal.overflow_cast-standing
overflow_cast-standing c =
    let p = c.requires in omega (arith, moved_length c.move_on-count.ensures, p.placed.few, p.most)

pub returns : goal.returns
returns c =
    let move-on = c.move_on-count in
    let p = c.requires in
    crossed move-on.ensures _ _ p.placed p.full p.free p.from_inside p.to_inside (omega arith) c.remove.ensures c.add.ensures
