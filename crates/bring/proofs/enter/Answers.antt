-- `bring::enter` meets its contract. The leader's crossing leaves its bay empty and the follower where it was.
use Rattle.std.proofs.Common.{◌≡◌, ◌∙◌, arith, length, rules}
use Rattle.paper.proofs.Playing.{bay-in}
use Rattle.acting.proofs.Acting.{tallied-from}
use Rattle.bring.proofs.Bringing.{followed, entered}
use Rattle.bring.proofs.enter.Goals as goal

pub cross-one-requires : goal.cross-one-requires
cross-one-requires c =
    let z = c.requires in
    let a = c.args in
    record {
      from_inside = z.placed.inside a.couple.leader.0 z.coupled.leads;
      to_inside = z.inside;
      most = z.most;
      empty_size = z.empty_size;
      counts = omega arith;
      full = bay-in a.placement.now a.couple.leader.0 z.coupled.leads;
      free = z.free;
      placed = z.placed;
    }

pub cross-crossings-requires : goal.cross-crossings-requires
cross-crossings-requires c =
    let cross = c.cross-one in
    let z = c.requires in
    let k = z.coupled in
    let a = c.args in
    let first = tallied-from 0 cross.ensures in
    let f = followed a.placement.now a.couple.leader.0 a.couple.follower.0 a.x.0 z.placed.apart k.leads k.follows k.differ z.free first in
    let kw : length cross.new.standing ≡ length a.standing.now = cross.auto.standing in
    let kf : length cross.new.empty ≡ length a.empty.now = cross.auto.empty in
    record {
      from_inside = omega (arith, z.placed.inside a.couple.follower.0 k.follows, kw);
      to_inside = omega (arith, z.placed.inside a.couple.leader.0 k.leads, kw);
      most = omega (arith, z.most, kw);
      empty_size = omega (arith, z.empty_size, kf);
      counts = omega (arith, cross.ensures.counted);
      full = f.0;
      free = f.1;
      placed = rw kw first.placed;
    }

pub returns : goal.returns
returns c =
    let cross2 = c.cross-crossings in
    let cross = c.cross-one in
    let z = c.requires in
    let k = z.coupled in
    let a = c.args in
    let kw : length cross.new.standing ≡ length a.standing.now = cross.auto.standing in
    let second = rw kw at cross2.ensures in
    entered a.placement.now a.couple.leader.0 a.couple.follower.0 a.x.0 z.placed.apart k.leads k.follows k.differ z.free (tallied-from 0 cross.ensures) (tallied-from 0 second)
