-- `aside::vacate_both` meets its contract. The second vacate starts where the first ended, and holds x as well.
use Rattle.std.proofs.Common.{◌∙◌, ◌≡◌, [], ◌∷◌, arith, length, rules, None, Some}
use Rattle.paper.specs.Procedure.{vacate}
use Rattle.acting.proofs.Acting.{tries-none, acted-done, acted-failed}
use Rattle.acting.proofs.Holding.{two_shown, held_shown, holds_two, ready-again}
use Rattle.acting.proofs.Lending.{rest-lent}
use Rattle.aside.proofs.Emptying.{both-done, both-fails, aside-fails}
use Rattle.aside.proofs.vacate_both.Goals as goal

pub make_room-requires : goal.make_room-requires
make_room-requires c =
    let alone = c.alone in
    let p = c.requires.ready in
    let z = c.requires.aside_asks in
    record { ready = p; room_asks = record { inside = z.inside; held_size = search rules; shown = two_shown p.tabled (holds_two p.tabled _ _ _ _ alone.ensures c.join.ensures) } }

pub returns-in_err-made : goal.returns-in_err-made
returns-in_err-made c =
    let make-room = c.make_room in
    let join = c.join in
    let alone = c.alone in
    let e : make-room.result ≡ None = c.in_err-made.was in
    rw c.from_residual.ensures (record { few = tt; tries = λ t. tries-none (aside-fails _ _ _ _ _ _ (acted-failed (rw e at (make-room.ensures.acts (two_shown t (holds_two t _ _ _ _ alone.ensures join.ensures)))))) })

pub join-requires-2 : goal.join-requires-2
join-requires-2 c =
    let join = c.join in
    let alone = c.alone in
    let p = c.requires.ready in
    let z = c.requires.aside_asks in
    (omega (arith, join.auto.ws, alone.auto.ws), omega (arith, p.most, z.inside))

pub offset_bounds-out-from : goal.offset_bounds-out-from
offset_bounds-out-from c =
    search (rules, c.place_in-from.ensures, c.make_room.auto.out, c.well_formed)

pub make_room-requires-2 : goal.make_room-requires-2
make_room-requires-2 c =
    let join2 = c.join-2 in
    let make-room = c.make_room in
    let join = c.join in
    let alone = c.alone in
    let p = c.requires.ready in
    let z = c.requires.aside_asks in
    let e : make-room.result ≡ Some c.in_ok-made.made = c.in_ok-made.was in
    let h = holds_two p.tabled _ _ _ _ alone.ensures join.ensures in
    let o = vacate p.tabled.yard (h.one ∷ h.two ∷ []) c.args.x.0 c.args.placement.now in
    let d = acted-done {o = o} (rw e at (make-room.ensures.acts (two_shown p.tabled h))) in
    let kw : length make-room.new.standing ≡ length c.args.standing.now = make-room.auto.standing in
    let kf = make-room.auto.empty in
    record { ready = ready-again p _ _ _ kw kf d.2.placed; room_asks = record { inside = rw kw z.emptied; held_size = omega (arith, join2.auto.ws, join.auto.ws, alone.auto.ws); shown = rw kw (held_shown p.tabled h _ join2.ensures) } }

pub returns-in_err-more : goal.returns-in_err-more
returns-in_err-more c =
    let make-room2 = c.make_room-2 in
    let join2 = c.join-2 in
    let make-room = c.make_room in
    let join = c.join in
    let alone = c.alone in
    let e : make-room.result ≡ Some c.in_ok-made.made = c.in_ok-made.was in
    let d : make-room2.result ≡ None = c.in_err-more.was in
    let kw : length make-room.new.standing ≡ length c.args.standing.now = make-room.auto.standing in
    rw c.from_residual-in_err-more.ensures (record {
      few = tt;
      tries = λ t.
          let h = holds_two t _ _ _ _ alone.ensures join.ensures in
          tries-none (both-fails t.yard _ _ _ _ (rw e at (make-room.ensures.acts (two_shown t h))) (rw d at ((rw kw at make-room2.ensures.acts) (held_shown t h _ join2.ensures))));
    })

pub add-requires : goal.add-requires
add-requires c =
    let make-room2 = c.make_room-2 in
    let make-room = c.make_room in
    let e : make-room.result ≡ Some c.in_ok-made.made = c.in_ok-made.was in
    let d : make-room2.result ≡ Some c.in_ok-more.more = c.in_ok-more.was in
    omega (arith, rw e at make-room.ensures.few, rw d at make-room2.ensures.few)

pub returns : goal.returns
returns c =
    let make-room2 = c.make_room-2 in
    let join2 = c.join-2 in
    let make-room = c.make_room in
    let join = c.join in
    let alone = c.alone in
    let e : make-room.result ≡ Some c.in_ok-made.made = c.in_ok-made.was in
    let d : make-room2.result ≡ Some c.in_ok-more.more = c.in_ok-more.was in
    let kw : length make-room.new.standing ≡ length c.args.standing.now = make-room.auto.standing in
    record {
      few = omega (arith, rw e at make-room.ensures.few, rw d at make-room2.ensures.few, c.add.ensures.crossings);
      tries = λ t.
          let h = holds_two t _ _ _ _ alone.ensures join.ensures in
          both-done t.yard _ _ _ _ (rw e at (make-room.ensures.acts (two_shown t h))) (rw d at ((rw kw at make-room2.ensures.acts) (held_shown t h _ join2.ensures))) (rest-lent _ c.place_in-from.ensures c.out-2-1.given c.add.ensures);
    }
