-- `step::make_way` meets its contract. Where the vacate fails nothing has moved, so the swap starts where the step did.
use Rattle.std.proofs.Common.{◌∙◌, ◌≡◌, ap, ◌<◌, arith, length, get_or, rules, None, Some}
use Rattle.acting.proofs.Acting.{tallied-from, acted-done, acted-failed}
use Rattle.swap.proofs.FromBelow.{ready-again}
use Rattle.step.proofs.Stepping.{held_by, met-carrier, met-other, met-beside, stepped-swap, r-there, r-inside, w-empty, stepped-cross}
use Rattle.step.proofs.make_way.Goals as goal

pub overflow_cast-placement : goal.overflow_cast-placement
overflow_cast-placement c =
    let p = c.requires.ready in omega (arith, p.placed.inside c.args.next.carrier.0 c.requires.step_asks.can.carrier_there, p.most)

pub add-requires : goal.add-requires
add-requires c =
    let p = c.requires.ready in omega (arith, p.placed.inside c.args.next.carrier.0 c.requires.step_asks.can.carrier_there, p.most, c.keep.auto.rows)

pub make_room-vacated-requires : goal.make_room-vacated-requires
make_room-vacated-requires c =
    let add = c.add in
    let keep = c.keep in
    let p = c.requires.ready in
    let z = c.requires.step_asks in
    record { ready = p; room_asks = record { inside = z.can.bay_there; held_size = omega (arith, add.auto.ws, keep.auto.rows); shown = held_by p.tabled c.args.next.carrier.0 z.below keep.ensures add.ensures } }

pub bounds-standing-bay : goal.bounds-standing-bay
bounds-standing-bay c =
    let make-room = c.make_room-vacated in
    omega (arith, c.requires.step_asks.can.bay_there, make-room.auto.standing)

pub overflow_cast-s : goal.overflow_cast-s
overflow_cast-s c =
    let make-room = c.make_room-vacated in
    let add = c.add in
    let keep = c.keep in
    let p = c.requires.ready in
    let z = c.requires.step_asks in
    let e : make-room.result ≡ None = c.in_default.is in
    let a = rw e at (make-room.ensures.acts (held_by p.tabled c.args.next.carrier.0 z.below keep.ensures add.ensures)) in
    let u = (a.fails (acted-failed a)).1 in
    let h : get_or make-room.new.standing c.args.next.to.0 0 < length c.args.placement.now = rw u.same_standing (met-carrier p.tabled p.most z.can p.placed (acted-failed a)).0 in
    omega (arith, h, p.most, p.placed.few)

pub swap-requires : goal.swap-requires
swap-requires c =
    let make-room = c.make_room-vacated in
    let add = c.add in
    let keep = c.keep in
    let p = c.requires.ready in
    let z = c.requires.step_asks in
    let e : make-room.result ≡ None = c.in_default.is in
    let a = rw e at (make-room.ensures.acts (held_by p.tabled c.args.next.carrier.0 z.below keep.ensures add.ensures)) in
    let f = acted-failed a in
    let u = (a.fails f).1 in
    let m = met-carrier p.tabled p.most z.can p.placed f in
    let b = met-beside p.tabled p.most z.can p.placed f in
    let sp : make-room.new.placement ≡ c.args.placement.now = u.same_placement in
    let ss : make-room.new.standing ≡ c.args.standing.now = u.same_standing in
    let se : make-room.new.empty ≡ c.args.empty.now = u.same_empty in
    record {
      ready = ready-again p _ _ _ (ap length ss) (ap length se) (rw (sp, ss, se) p.placed);
      seek_asks = record {
        first = rw sp z.can.carrier_there;
        second = rw (sp, ss) m.0;
        differ = rw ss (met-other p.tabled p.most z.can p.placed f);
        side = rw (sp, ss) (record { tabled = p.tabled; beside = b });
      };
    }

pub returns-in_default : goal.returns-in_default
returns-in_default c =
    let swap = c.swap in
    let make-room = c.make_room-vacated in
    let add = c.add in
    let keep = c.keep in
    let p = c.requires.ready in
    let z = c.requires.step_asks in
    let e : make-room.result ≡ None = c.in_default.is in
    record {
      few = swap.ensures.few;
      proceeds = λ t.
          let a = rw e at (make-room.ensures.acts (held_by t c.args.next.carrier.0 z.below keep.ensures add.ensures)) in
          let f = acted-failed a in
          let u = (a.fails f).1 in
          let se : make-room.new.empty ≡ c.args.empty.now = u.same_empty in
          rw se (stepped-swap t p.most z.can p.placed f
          ((rw (u.same_placement, u.same_standing, u.same_empty, u.same_list) at swap.ensures.proceeds) t (met-beside t p.most z.can p.placed f)));
    }

pub bounds-placement-own-2 : goal.bounds-placement-own-2
bounds-placement-own-2 c =
    let make-room = c.make_room-vacated in
    omega (arith, c.requires.step_asks.can.carrier_there, make-room.auto.placement)

pub cross-crossings-requires : goal.cross-crossings-requires
cross-crossings-requires c =
    let make-room = c.make_room-vacated in
    let add = c.add in
    let keep = c.keep in
    let p = c.requires.ready in
    let z = c.requires.step_asks in
    let m = c.in-Some.done in
    let e : make-room.result ≡ Some m = c.in-Some.is in
    let few = rw e at make-room.ensures.few in
    let kw : length make-room.new.standing ≡ length c.args.standing.now = make-room.auto.standing in
    let kf : length make-room.new.empty ≡ length c.args.empty.now = make-room.auto.empty in
    let d = acted-done (rw e at (make-room.ensures.acts (held_by p.tabled c.args.next.carrier.0 z.below keep.ensures add.ensures))) in
    record {
      from_inside = rw kw (d.2.placed.inside c.args.next.carrier.0 (r-inside p.tabled p.most z.can p.placed d.0 d.1 _ d.2.moved));
      to_inside = rw kw z.can.bay_there;
      most = omega (arith, p.most, kw);
      empty_size = omega (arith, p.empty_size, kf);
      counts = omega (arith, few);
      full = r-there p.tabled p.most z.can p.placed d.0 d.1 _ d.2.moved;
      free = w-empty p.tabled p.most z.can p.placed d.0 d.1 _ d.2.moved;
      placed = rw kw d.2.placed;
    }

pub returns : goal.returns
returns c =
    let cross = c.cross-crossings in
    let make-room = c.make_room-vacated in
    let add = c.add in
    let keep = c.keep in
    let p = c.requires.ready in
    let z = c.requires.step_asks in
    let m = c.in-Some.done in
    let e : make-room.result ≡ Some m = c.in-Some.is in
    let few = rw e at make-room.ensures.few in
    let kw : length make-room.new.standing ≡ length c.args.standing.now = make-room.auto.standing in
    let crossed = rw kw at cross.ensures in
    record {
      few = omega (arith, few, crossed.counted);
      proceeds = λ t.
          let d = acted-done (rw e at (make-room.ensures.acts (held_by t c.args.next.carrier.0 z.below keep.ensures add.ensures))) in
          stepped-cross t p.most z.can p.placed d.0 d.1 d.2 (tallied-from _ crossed);
    }
