-- the rail below goes where the one beside ended.
use Rattle.std.proofs.Common.{arith}
use Rattle.stores.proofs.Stores.{wrote_then}
use Rattle.gridmap.specs.Cells.{rails_at_in}
use Rattle.gridmap.proofs.RailEnds.{rail-next}
use Rattle.gridmap.proofs.put_rails.Goals as goal

pub put_rail-requires : goal.put_rail-requires
put_rail-requires c =
    omega (arith, rail-next _ _ _ _ _ _ c.put_rail-next.ensures, c.requires)

pub returns : goal.returns
unfolding rails_at_in
returns c =
    let number-beside = c.number_beside-beside in
    let number_at = c.number_at-lower in
    wrote_then (rw (number-beside.ensures, number_at.ensures) at c.put_rail-next.ensures) (rw (c.number_at-below.ensures, number_at.ensures) at c.put_rail.ensures)
