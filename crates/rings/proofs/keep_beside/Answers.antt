-- `rings::keep_beside` meets its contract. What stands beside the kept bays is met with row i, and becomes both the kept ones and row i.
use Rattle.std.proofs.Common.{sym, ◌∙◌, arith, rules}
use Rattle.rings.proofs.Narrowing.{kept-beside}
use Rattle.rings.proofs.keep_beside.Goals as goal

pub meet_row-requires : goal.meet_row-requires
meet_row-requires c = (c.beside.auto.found, c.requires.row_there)

pub slice_bounds-keep-end : goal.slice_bounds-keep-end
slice_bounds-keep-end c = sym (c.meet_row.auto.set ∙ c.beside.auto.found)

pub keep-requires : goal.keep-requires
keep-requires c = (c.meet_row.auto.set ∙ c.beside.auto.found, omega (arith, c.requires.kept_size))

pub keep-requires-2 : goal.keep-requires-2
keep-requires-2 c =
    let p = c.requires in
    (c.keep.auto.rows ∙ p.kept_size, p.row_there)

pub returns : goal.returns
returns c =
    let meet-row = c.meet_row in
    let beside = c.beside in
    kept-beside _ _ _ _ _ _ _ _ beside.ensures meet-row.ensures c.keep.ensures c.keep-2.ensures
