-- `scouts::send` meets its contract. Whichever scout is on the path has come along its beginning, so it goes on along the rest.
use Rattle.std.proofs.Common.{◌≡◌, sym, ◌∙◌, ap, arith, suc, ◌+◌, add-one, length, drop, length-drop, length-take-le, rules}
use Rattle.paper.proofs.Members.{nothing-in-nil}
use Rattle.words.specs.Sets.{span}
use Rattle.acting.proofs.Holding.{ready-again}
use Rattle.trial.proofs.FromBelow.{in-bays}
use Rattle.trial.proofs.Copying.{part, part-inside}
use Rattle.scouts.proofs.Sending.{came-of, sent-most, sent-of}
use Rattle.scouts.proofs.send.Goals as goal

pub look-sight-requires : goal.look-sight-requires
look-sight-requires c =
    let a = c.args in
    let p = c.requires.ready in
    let z = c.requires.send_asks in
    let w = c.on_the_path-there.ensures in
    let there = c.on_the_path-there.result in
    let room = c.on_the_path-there.new.room in
    let t = z.some_yard.0 in
    let came = came-of p t z.some_yard.2 (in-bays t z.asks.inside, nothing-in-nil _) z.asks.short there room w in
    let few = p.placed.few in
    let kw = length-take-le (length a.standing.now) (drop span room) (omega (arith, came.sized.room_size, length-drop span room, p.most)) in
    let long = ap length (part a.path.now (there.rails + 1)) ∙ length-drop (there.rails + 1) a.path.now in
    record {
      carriers_fit = omega (arith, few, p.most);
      bays_fit = p.most;
      sized = came.sized;
      ready = ready-again p _ _ _ kw (came.sized.empty_size ∙ sym p.empty_size) came.placed;
      leads = z.asks.coupled.leads;
      follows = z.asks.coupled.follows;
      differ = z.asks.coupled.differ;
      junction_inside = z.asks.inside;
      inside = part-inside a.path.now (there.rails + 1) _ z.asks.bays_inside;
      short = omega (arith, long, w.there, z.asks.short);
    }

pub overflow_add-result : goal.overflow_add-result
overflow_add-result c =
    let z = c.requires.send_asks in
    let there = c.on_the_path-there.result in
    let w = c.on_the_path-there.ensures in
    let long = ap length (part c.args.path.now (there.rails + 1)) ∙ length-drop (there.rails + 1) c.args.path.now in
    omega (arith, c.look-sight.ensures.most, long, w.there, z.asks.short)

pub returns : goal.returns
returns c =
    let a = c.args in
    let p = c.requires.ready in
    let z = c.requires.send_asks in
    let w = c.on_the_path-there.ensures in
    let there = c.on_the_path-there.result in
    let look = c.look-sight in
    let l = rw (part a.path.now (there.rails + 1), add-one) at look.ensures in
    let long = ap length (part a.path.now (there.rails + 1)) ∙ length-drop (there.rails + 1) a.path.now in
    record {
      most = omega (arith, look.ensures.most, long, w.there);
      sends = λ t u s.
          rw add-one (sent-of p t s (in-bays t z.asks.inside, nothing-in-nil _) z.asks.short there _ w z.asks.coupled.leads z.asks.coupled.follows z.asks.coupled.differ look.result _ l);
    }
