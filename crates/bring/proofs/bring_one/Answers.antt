-- `bring::bring_one` meets its contract. An empty bay is vacated already. The vacate holds both bays, so both carriers are where they were when they
-- cross. Either carrier's bay would be low enough to be held: that it is m's is what the vacate's answer asks.
use Rattle.std.proofs.Common.{◌≡◌, sym, ◌∙◌, arith, length, [], rules, None, Some}
use Rattle.acting.proofs.Acting.{tries-none, acted-failed}
use Rattle.acting.proofs.Holding.{pair_shown}
use Rattle.acting.proofs.Lending.{rest-lent, on-the-rest}
use Rattle.bring.proofs.Bringing.{bay_low, led, brought-one, free, acts-free, brought-not}
use Rattle.bring.proofs.bring_one.Goals as goal

pub enter-requires : goal.enter-requires
enter-requires c =
    let p = c.requires.ready in
    let z = c.requires.one_asks in
    let a = c.args in
    let h = sym c.if-is_in.true ∙ c.is_in.ensures in
    record {
      coupled = z.coupled;
      inside = z.inside;
      most = p.most;
      empty_size = p.empty_size;
      free = free a.x.0 a.placement.now p.placed z.inside h;
      placed = p.placed;
    }

pub returns-then-is_in : goal.returns-then-is_in
returns-then-is_in c =
    let enter = c.enter in
    let if1 = c.if-is_in in
    let is-in = c.is_in in
    let p = c.requires.ready in
    let z = c.requires.one_asks in
    let a = c.args in
    let h = sym if1.true ∙ is-in.ensures in
    let k = z.coupled in
    let entry = enter.ensures in
    record {
      few = omega (arith, entry.counted);
      tries = λ t.
          brought-one t.yard (length a.standing.now) a.couple.leader.0 a.couple.follower.0 a.x.0 a.placement.now p.placed.apart k.leads k.follows k.differ (bay_low t z.inside) (acts-free a.x.0 a.placement.now p.placed z.inside h t.yard _) entry;
    }

pub overflow_cast-u : goal.overflow_cast-u
overflow_cast-u c =
    let p = c.requires in
    let a = c.args in
    omega (arith, p.ready.placed.inside a.couple.leader.0 p.one_asks.coupled.leads)

pub alone-requires : goal.alone-requires
alone-requires c =
    let p = c.requires in
    let a = c.args in
    (omega arith, omega (arith, p.ready.placed.inside a.couple.leader.0 p.one_asks.coupled.leads, p.ready.most))

pub overflow_cast-w : goal.overflow_cast-w
overflow_cast-w c =
    let p = c.requires in
    let a = c.args in
    omega (arith, p.ready.placed.inside a.couple.leader.0 p.one_asks.coupled.leads, p.ready.placed.inside a.couple.follower.0 p.one_asks.coupled.follows)

pub join-requires : goal.join-requires
join-requires c =
    let p = c.requires in
    let a = c.args in
    (omega arith, omega (arith, p.ready.placed.inside a.couple.leader.0 p.one_asks.coupled.leads, p.ready.placed.inside a.couple.follower.0 p.one_asks.coupled.follows, p.ready.most))

pub make_room-requires : goal.make_room-requires
make_room-requires c =
    let alone = c.alone in
    let p = c.requires.ready in
    let z = c.requires.one_asks in
    record { ready = p; room_asks = record { inside = z.inside; held_size = omega arith; shown = pair_shown p.tabled _ _ _ _ alone.ensures c.join.ensures } }

pub returns-in_err-made : goal.returns-in_err-made
returns-in_err-made c =
    let make-room = c.make_room in
    let join = c.join in
    let alone = c.alone in
    let e : make-room.result ≡ None = c.in_err-made.was in
    rw c.from_residual.ensures (record {
      few = tt;
      tries = λ t.
          let v = pair_shown t _ _ _ _ alone.ensures join.ensures in
          tries-none (brought-not t.yard c.args.couple.leader.0 c.args.couple.follower.0 c.args.x.0 c.args.placement.now (acted-failed (rw e at (make-room.ensures.acts v))) []);
    })

pub offset_bounds-out-from : goal.offset_bounds-out-from
offset_bounds-out-from c =
    search (rules, c.place_in-from.ensures, c.make_room.auto.out, c.well_formed)

pub enter-entered-requires : goal.enter-entered-requires
enter-entered-requires c =
    let make-room = c.make_room in
    let join = c.join in
    let alone = c.alone in
    let p = c.requires.ready in
    let z = c.requires.one_asks in
    let k = z.coupled in
    let a = c.args in
    let e : make-room.result ≡ Some c.in_ok-made.made = c.in_ok-made.was in
    let kw : length make-room.new.standing ≡ length a.standing.now = make-room.auto.standing in
    let kf : length make-room.new.empty ≡ length a.empty.now = make-room.auto.empty in
    let acts = rw e at (make-room.ensures.acts (pair_shown p.tabled _ _ _ _ alone.ensures join.ensures)) in
    let l = led p.tabled.yard (length a.standing.now) a.couple.leader.0 a.couple.follower.0 a.x.0 a.placement.now p.placed.apart k.leads k.follows k.differ (bay_low p.tabled z.inside) acts in
    record {
      coupled = record { leads = l.0; follows = l.1; differ = k.differ };
      inside = omega (arith, z.inside, kw);
      most = omega (arith, p.most, kw);
      empty_size = omega (arith, p.empty_size, kf);
      free = l.2;
      placed = rw kw l.3;
    }

pub add-requires : goal.add-requires
add-requires c =
    let make-room = c.make_room in
    let e : make-room.result ≡ Some c.in_ok-made.made = c.in_ok-made.was in
    omega (arith, rw e at make-room.ensures.few, c.enter-entered.ensures.counted)

pub returns : goal.returns
returns c =
    let enter2 = c.enter-entered in
    let make-room = c.make_room in
    let join = c.join in
    let alone = c.alone in
    let p = c.requires.ready in
    let z = c.requires.one_asks in
    let k = z.coupled in
    let a = c.args in
    let e : make-room.result ≡ Some c.in_ok-made.made = c.in_ok-made.was in
    let kw : length make-room.new.standing ≡ length a.standing.now = make-room.auto.standing in
    let entry = rw kw at enter2.ensures in
    record {
      few = omega (arith, rw e at make-room.ensures.few, entry.counted, c.add.ensures.crossings);
      tries = λ t.
          let acts = rw e at (make-room.ensures.acts (pair_shown t _ _ _ _ alone.ensures join.ensures)) in
          brought-one t.yard (length a.standing.now) a.couple.leader.0 a.couple.follower.0 a.x.0 a.placement.now p.placed.apart k.leads k.follows k.differ (bay_low t z.inside) acts (on-the-rest (rest-lent _ c.place_in-from.ensures c.out-3-1.given c.add.ensures) entry);
    }
