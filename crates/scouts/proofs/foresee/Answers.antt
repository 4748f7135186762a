-- `scouts::foresee` meets its contract. The scout of whoever leads goes on; the other stays where it is.
use Rattle.std.proofs.Common.{◌≡◌, sym, ◌∙◌, refl, Bool, true, false, not, ◌≤◌, arith, length, length-drop, length-take-le, rules, ltb-true}
use Rattle.paper.proofs.Tests.{and_left}
use Rattle.scout.specs.Scouting.{scout_room}
use Rattle.scout.proofs.Fronts.{all-long, front-stands, front-leaves, rest_part, rest-leaves, rest-stands}
use Rattle.scouts.specs.Scouts.{second_leads}
use Rattle.scouts.proofs.Foreseeing.{came-kept, sending-theirs, sending-ours, stuck-theirs, stuck-ours, fails-theirs, fails-ours, stuck-now}
use Rattle.scouts.proofs.foresee.Goals as goal

not_so : (q : Bool) → not q ≡ true → q ≡ false
not_so true e = sym e
not_so false e = refl

-- ## The neighbour leads: its scout has the room's second half

-- ## The carrier leads: its scout has the first half

pub bounds-placement-neighbour : goal.bounds-placement-neighbour
bounds-placement-neighbour c = c.requires.foresee_asks.on_path.asks.second

pub slice_bounds-send-count : goal.slice_bounds-send-count
slice_bounds-send-count c = omega (arith, c.requires.foresee_asks.room_size)

pub slice_bounds-send-start : goal.slice_bounds-send-start
slice_bounds-send-start c = omega (arith, c.requires.foresee_asks.room_size)

pub slice_bounds-send-end : goal.slice_bounds-send-end
slice_bounds-send-end c = omega arith

pub send-sight-requires : goal.send-sight-requires
send-sight-requires c =
    let p = c.requires.ready in
    let z = c.requires.foresee_asks in
    let q = z.on_path in
    let room = c.args.room.now in
    let h = sym c.second_is.ensures ∙ c.if-second_is.true in
    record {
      ready = p;
      send_asks = rw (c.neighbour_leads.ensures, rest_part room scout_room) (record {
        asks = record {
          coupled = record { leads = q.asks.second; follows = q.asks.first; differ = λ e. q.asks.differ (sym e) };
          inside = q.asks.inside;
          bays_inside = q.bays_inside;
          short = q.short;
        };
        room_size = omega (arith, length-drop scout_room room, z.room_size);
        there = ltb-true _ _ (and_left _ _ h);
        some_yard = (z.side.tabled, _, sending-theirs p z z.side.tabled z.side.beside h);
      });
    }

pub noted-requires : goal.noted-requires
noted-requires c =
    let p = c.requires.ready in
    let z = c.requires.foresee_asks in
    record { size = z.scouted.stuck_size; low = λ k h. omega (arith, z.on_path.bays_inside k h, p.most) }

pub returns-then-second_is : goal.returns-then-second_is
returns-then-second_is c =
    let p = c.requires.ready in
    let z = c.requires.foresee_asks in
    let room = c.args.room.now in
    let fits : scout_room ≤ length room = omega (arith, z.room_size) in
    let h = sym c.second_is.ensures ∙ c.if-second_is.true in
    let send = c.send-sight in
    let whole = c.room-1.given in
    let sent = rw (c.neighbour_leads.ensures, rest_part room scout_room) at send.ensures.sends in
    let note = c.noted.ensures in
    record {
      scouted = record {
        stuck_size = note.size;
        scouting = λ t b. record {
          ours = λ l. came-kept (rest-leaves room send.new.room _ scout_room fits) ((z.scouted.scouting t b).ours l);
          theirs = λ l. came-kept (rest-stands room send.new.room _ scout_room fits whole.0 whole.1) (sent t _ (sending-theirs p z t b h)).came;
          stuck = stuck-now p z t b send.result _ note (λ l. let k = (sent t _ (sending-theirs p z t b h)).stops l in stuck-theirs p z t b _ l (omega (arith, k.0)) h k.1);
        };
      };
      fails = λ e t b. fails-theirs p z t b h ((sent t _ (sending-theirs p z t b h)).unfit (not_so _ e));
    }

pub slice_bounds-send-end-2 : goal.slice_bounds-send-end-2
slice_bounds-send-end-2 c = omega (arith, c.requires.foresee_asks.room_size)

pub slice_bounds-send-end-3 : goal.slice_bounds-send-end-3
slice_bounds-send-end-3 c =
    sym (length-take-le scout_room c.args.room.now (omega (arith, c.requires.foresee_asks.room_size)))

pub send-sight-requires-2 : goal.send-sight-requires-2
send-sight-requires-2 c =
    let p = c.requires.ready in
    let z = c.requires.foresee_asks in
    let q = z.on_path in
    record {
      ready = p;
      send_asks = rw c.carrier_leads.ensures (record {
        asks = record {
          coupled = record { leads = q.asks.first; follows = q.asks.second; differ = q.asks.differ };
          inside = q.asks.inside;
          bays_inside = q.bays_inside;
          short = q.short;
        };
        room_size = length-take-le scout_room c.args.room.now (omega (arith, z.room_size));
        there = omega (arith, q.some_bays);
        some_yard = (z.side.tabled, _, sending-ours p z z.side.tabled z.side.beside);
      });
    }

pub noted-requires-2 : goal.noted-requires-2
noted-requires-2 c =
    let p = c.requires.ready in
    let z = c.requires.foresee_asks in
    record { size = z.scouted.stuck_size; low = λ k h. omega (arith, z.on_path.bays_inside k h, p.most) }

pub returns : goal.returns
returns c =
    let p = c.requires.ready in
    let z = c.requires.foresee_asks in
    let room = c.args.room.now in
    let fits : scout_room ≤ length room = omega (arith, z.room_size) in
    let h = sym c.second_is.ensures ∙ c.if-second_is.false in
    let send = c.send-sight-2 in
    let front = send.new.room in
    let long = send.auto.room in
    let sent = rw c.carrier_leads.ensures at send.ensures.sends in
    let note = c.noted-2.ensures in
    record {
      scouted = record {
        stuck_size = note.size;
        scouting = λ t b. record {
          ours = λ l. came-kept (front-stands room front scout_room fits long) (sent t _ (sending-ours p z t b)).came;
          theirs = λ l. came-kept (front-leaves room front scout_room fits long) ((z.scouted.scouting t b).theirs l);
          stuck = stuck-now p z t b send.result _ note (λ l. let k = (sent t _ (sending-ours p z t b)).stops l in stuck-ours p z t b _ l (omega (arith, k.0)) h k.1);
        };
      };
      fails = λ e t b. fails-ours p z t b h ((sent t _ (sending-ours p z t b)).unfit (not_so _ e));
    }
