use Rattle.std.proofs.Common.{◌∙◌, ◌≡◌, refl, true, ◌≤◌, ◌<◌, ◌-◌, arith, length, rules, None, Some}
use Rattle.paper.specs.Procedure.{vacate}
use Rattle.words.specs.Sets.{mem, span}
use Rattle.rings.specs.Search.{Shown}
use Rattle.moving.specs.Placed.{Unchanged}
use Rattle.acting.proofs.Acting.{acted-failed}
use Rattle.keeping.specs.Keeping.{Stuck}
use Rattle.acting.proofs.Holding.{ready-again}
use Rattle.keeping.proofs.Keeping.{same-again, unchanged-played, stuck-none, stuck-more, keeps_here}
use Rattle.keeping.proofs.keep_one.Goals as goal

pub loop-x-init : goal.loop-x-init
loop-x-init c = let l = c.next_from-x.ensures in (l.upto, l.from, l.hit, refl, refl, refl, refl, record { same_placement = refl; same_standing = refl; same_empty = refl; same_list = refl }, λ v. stuck-none _ _ _ _ _ _ l)

pub make_room-vacated-requires : goal.make_room-vacated-requires
make_room-vacated-requires c =
    let loop-test = c.loop-x-test in
    let p = c.requires.ready in
    let z = c.requires.keep_asks in
    let v = c.loop-x.invariant in
    let s = v.7 in
    let e = v.4 in
    record { ready = ready-again p _ _ _ e v.5 (rw (s.same_standing, s.same_placement, s.same_empty) p.placed); room_asks = record { inside = rw e (z.among.low _ loop-test.true (v.2 loop-test.true)); held_size = z.held_size; shown = rw e z.shown } }

pub returns-in-Some : goal.returns-in-Some
returns-in-Some c =
    let make-room = c.make_room-vacated in
    let loop-test = c.loop-x-test in
    let z = c.requires.keep_asks in
    let l = c.loop-x in
    let v = l.invariant in
    let t = loop-test.true in
    let kw : length l.standing ≡ length c.args.standing.now = v.4 in
    let e : make-room.result ≡ Some c.in-Some.done = c.in-Some.is in
    let f = rw kw at make-room.ensures.acts in
    record {
      few = (t, rw e at make-room.ensures.few);
      keeps = λ w. keeps_here v.1 (z.among.low _ t (v.2 t)) (v.2 t) (v.8 w) v.7 (rw e at (f w));
    }

pub loop-x-preserved : goal.loop-x-preserved
loop-x-preserved c =
    let make-room = c.make_room-vacated in
    let loop-test = c.loop-x-test in
    let z = c.requires.keep_asks in
    let l = c.loop-x in
    let v = l.invariant in
    let t = loop-test.true in
    let kw : length l.standing ≡ length c.args.standing.now = v.4 in
    let k = make-room.auto in
    let e : make-room.result ≡ None = c.in_default.is in
    let f = rw kw at make-room.ensures.acts in
    let o = vacate z.shown.yard z.shown.bays l.x l.placement in
    let n = c.next_from-x-in-loop-x.ensures in (
      n.upto,
      omega (arith, n.from, v.1),
      n.hit,
      k.placement ∙ v.3,
      k.standing ∙ v.4,
      k.empty ∙ v.5,
      k.out ∙ v.6,
      same-again {o = o} v.7 (rw e at (f z.shown)),
      λ w. stuck-more _ _ _ _ _ _ _ (v.8 w) (rw v.7.same_placement at (acted-failed (rw e at (f w)))) n,
    )

pub returns : goal.returns
returns c =
    let v = c.loop-x.invariant in
    record { few = tt; keeps = λ w. record { stuck = λ y h k m. v.8 w y h (omega (arith, c.loop-x-test.false)) m; played = unchanged-played c.requires.ready.placed v.7 } }
