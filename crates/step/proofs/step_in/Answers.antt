-- `step::step_in` meets its contract. Nobody stands at the bay, so r crosses at once; it is the only carrier that moves.
use Rattle.std.proofs.Common.{sym, ◌∙◌, arith, rules}
use borrow.Author.Tests.{not-true}
use Rattle.paper.specs.Basics.{elem}
use Rattle.paper.proofs.Playing.{bay-in}
use Rattle.step.proofs.Settling.{settled-free}
use Rattle.step.proofs.step_in.Goals as goal

pub cross-m-requires : goal.cross-m-requires
cross-m-requires c =
    let a = c.args in
    let z = c.requires in
    record {
      from_inside = z.placed.inside a.r.0 z.carrier_there;
      to_inside = z.bay_there;
      most = z.most;
      empty_size = z.empty_size;
      counts = omega arith;
      full = bay-in a.placement.now a.r.0 z.carrier_there;
      free = not-true (elem a.w.0 a.placement.now) (sym (z.placed.empties a.w.0 z.bay_there) ∙ z.free);
      placed = z.placed;
    }

pub settle-requires : goal.settle-requires
settle-requires c =
    let z = c.requires in
    record {
      size = z.settled_size;
      from_low = omega (arith, z.placed.inside c.args.r.0 z.carrier_there, z.most);
      to_low = omega (arith, z.bay_there, z.most);
    }

pub returns : goal.returns
returns c =
    let cross = c.cross-m in
    let a = c.args in
    let z = c.requires in
    let crossed = cross.ensures in
    record { crosses = crossed; below = settled-free a.r.0 a.w.0 a.placement.now z.placed z.carrier_there crossed c.settle.auto.settled c.settle.ensures }
