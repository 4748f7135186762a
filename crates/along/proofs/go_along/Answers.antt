-- `along::go_along` meets its contract. The path is the paper's; where there is none, or r cannot go it, the paper is stuck too.
use Rattle.std.proofs.Common.{◌≡◌, ◌∙◌, arith, length, rules, None, Some}
use Rattle.acting.proofs.Acting.{tried-done, tried-failed}
use Rattle.along.proofs.Along.{bays-more, settled_shown, carried-nowhere, bay-after, went-there, went-nowhere, arrives, arrives-nowhere, way-there, way-fits, way-short, way_long, way-linked, way-stuck}
use Rattle.along.proofs.go_along.Goals as goal

pub path_past-requires : goal.path_past-requires
path_past-requires c =
    let ready = c.requires.ready in
    let turn = c.requires.turn_asks in
    let goal = c.requires.goal_asks in
    let r = c.args.to.carrier.0 in
    record {
      path_asks = record {
        lent = record {
          most = ready.most;
          table_size = omega (arith, ready.table_size);
          held_size = turn.below.size;
          shown = settled_shown ready.tabled r _ turn.below;
        };
        start_inside = ready.placed.inside r turn.carrier_there;
        goal_inside = rw goal.own at (goal.each.inside r (omega (arith, turn.carrier_there, goal.each.many)));
        room = omega (arith, ready.most, c.requires.path_len);
      };
      kind_told = turn.kind;
    }

pub returns-in_err-k : goal.returns-in_err-k
returns-in_err-k c =
    let past = rw c.in_err-k.was at c.path_past.ensures in
    rw c.from_residual.ensures (record {
      arrives = arrives-nowhere;
      goes = λ t b. went-nowhere (carried-nowhere t.yard b.goals c.args.to.carrier.0 c.args.placement.now (way-there t c.requires.turn_asks b past));
    })

pub returns-then-k-lt1 : goal.returns-then-k-lt1
returns-then-k-lt1 c =
    let ready = c.requires.ready in
    let past = rw c.in_ok-k.was at c.path_past.ensures in
    let long = way_long ready.tabled c.requires.turn_asks ready c.requires.goal_asks past in
    let never-so : ⊥ = omega (arith, long, c.if-k-lt1.true) in
    absurd never-so

pub slice_bounds-ahead-end : goal.slice_bounds-ahead-end
slice_bounds-ahead-end c =
    let path-past = c.path_past in
    let ready = c.requires.ready in
    let past = rw c.in_ok-k.was at path-past.ensures in
    let kept : length path-past.new.path ≡ length c.args.path.now = path-past.auto.path in
    omega (arith, way-fits ready.tabled c.requires.turn_asks past, ready.most, kept, c.requires.path_len)

pub go-requires : goal.go-requires
go-requires c =
    let ready = c.requires.ready in
    let turn = c.requires.turn_asks in
    let past = rw c.in_ok-k.was at c.path_past.ensures in
    record {
      ready = ready;
      go_asks = record {
        carrier_there = turn.carrier_there;
        linked = way-linked ready.tabled turn ready c.requires.goal_asks past;
        short = omega (arith, way-short ready.tabled turn past, way-fits ready.tabled turn past, ready.most);
        loopless = turn.loopless;
        below = turn.below;
      };
    }

pub returns-in_err-done : goal.returns-in_err-done
returns-in_err-done c =
    let go = c.go in
    let past = rw c.in_ok-k.was at c.path_past.ensures in
    let e : go.result ≡ None = c.in_err-done.was in
    rw c.from_residual-in_err-done.ensures (record {
      arrives = arrives-nowhere;
      goes = λ t b. went-nowhere (way-stuck t c.requires.turn_asks c.requires.ready b past (tried-failed (rw e at (go.ensures.tries t b.goals))));
    })

pub offset_bounds-placement-own-2 : goal.offset_bounds-placement-own-2
offset_bounds-placement-own-2 c =
    omega (arith, c.requires.turn_asks.carrier_there, c.requires.ready.placed.few, c.requires.ready.most)

pub bounds-placement-own-2 : goal.bounds-placement-own-2
bounds-placement-own-2 c =
    let go = c.go in
    omega (arith, c.requires.turn_asks.carrier_there, go.auto.placement)

pub overflow_cast-placement : goal.overflow_cast-placement
overflow_cast-placement c =
    let go = c.go in
    let ready = c.requires.ready in
    let e : go.result ≡ Some c.in_ok-done.done = c.in_ok-done.was in
    let kp : length go.new.placement ≡ length c.args.placement.now = go.auto.placement in
    let low = bay-after (rw e at (go.ensures.tries ready.tabled c.requires.goal_asks.goals)) c.args.to.carrier.0 (omega (arith, c.requires.turn_asks.carrier_there, kp)) in
    omega (arith, low, ready.most)

pub add-requires : goal.add-requires
add-requires c =
    let go = c.go in
    let ready = c.requires.ready in
    let e : go.result ≡ Some c.in_ok-done.done = c.in_ok-done.was in
    let kp : length go.new.placement ≡ length c.args.placement.now = go.auto.placement in
    let low = bay-after (rw e at (go.ensures.tries ready.tabled c.requires.goal_asks.goals)) c.args.to.carrier.0 (omega (arith, c.requires.turn_asks.carrier_there, kp)) in
    omega (arith, low, ready.most, go.ensures.below.size)

pub returns : goal.returns
returns c =
    let add = c.add in
    let go = c.go in
    let ready = c.requires.ready in
    let turn = c.requires.turn_asks in
    let past = rw c.in_ok-k.was at c.path_past.ensures in
    let e : go.result ≡ Some c.in_ok-done.done = c.in_ok-done.was in
    let few = rw e at go.ensures.few in
    let kp : length go.new.placement ≡ length c.args.placement.now = go.auto.placement in
    let more = bays-more c.args.to.carrier.0 (omega (arith, turn.carrier_there, kp)) go.ensures.below add.auto.ws add.ensures in
    record {
      arrives = arrives (way-fits ready.tabled turn past) (omega (arith, few, way-short ready.tabled turn past)) more;
      goes = λ t b.
          let d = tried-done (rw e at (go.ensures.tries t b.goals)) in
          went-there d.0 (way-there t turn b past) d.1 d.2;
    }
