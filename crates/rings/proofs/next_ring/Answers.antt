-- `rings::next_ring` meets its contract. The ring after this one is kept as the next row.
use Rattle.std.proofs.Common.{◌∙◌, arith, rules}
use Rattle.rings.proofs.next_ring.Goals as goal

pub widen-requires : goal.widen-requires
widen-requires c =
    let p = c.requires in
    (p.seen_size, p.ring_size, λ a h m. let l = p.inside a h m in omega (arith, l, p.table_size))

pub keep-requires : goal.keep-requires
keep-requires c =
    let p = c.requires in
    (c.widen.auto.ring ∙ p.ring_size, omega (arith, p.rows_size))

pub returns : goal.returns
returns c = record { widened = c.widen.ensures; kept = c.keep.ensures }
