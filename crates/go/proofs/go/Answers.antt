-- What a step stored in the rest of the list follows what the steps before it stored.
use Rattle.std.proofs.Common.{◌≡◌, [], length, arith, rules}
use Rattle.acting.proofs.Acting.{tries-none}
use Rattle.acting.proofs.Holding.{ready-again}
use Rattle.acting.proofs.Lending.{rest-lent}
use Rattle.go.proofs.Going.{going-none, going-all, going_more, going-stops, linked_on, can-go, arrived}
use Rattle.go.proofs.go.Goals as goal

pub loop-bay-init : goal.loop-bay-init
loop-bay-init c = record {
  few = omega arith;
  linked = c.requires.go_asks.linked;
  goes = λ t goals. going-none _ _ _ _ _ _ _ _ _ c.requires.ready.placed;
  below = c.requires.go_asks.below;
}

pub advance-one-requires : goal.advance-one-requires
advance-one-requires c =
    let a = c.args in
    let p = c.requires.ready in
    let z = c.requires.go_asks in
    let l = c.loop-bay in
    let can = can-go (length a.standing.now) a.table.now a.r.0 l.placement a.ahead.now l.bay-index (omega arith) l.invariant.linked (omega arith) z.loopless in
    let e : length l.standing ≡ length a.standing.now = omega arith in
    record {
      ready = ready-again p _ _ _ e (omega arith) (l.invariant.goes p.tabled []).played.placed;
      step_asks = record { can = rw e can; below = l.invariant.below };
    }

pub returns-in_default : goal.returns-in_default
returns-in_default c =
    let l = c.loop-bay in
    let advance = c.advance-one.ensures in
    let e : length l.standing ≡ length c.args.standing.now = omega arith in
    let f = rw (e, c.in_default.is) at advance.says.proceeds in
    record { few = tt; tries = λ t goals. tries-none (going-stops (l.invariant.goes t goals) (omega arith) (f t)); below = advance.below }

pub add-count-requires : goal.add-count-requires
add-count-requires c = let few = rw c.in-Some.is at c.advance-one.ensures.says.few in omega arith

pub loop-bay-preserved : goal.loop-bay-preserved
loop-bay-preserved c =
    let a = c.args in
    let p = c.requires.ready in
    let z = c.requires.go_asks in
    let l = c.loop-bay in
    let v = l.invariant in
    let advance = c.advance-one.ensures in
    let can = can-go (length a.standing.now) a.table.now a.r.0 l.placement a.ahead.now l.bay-index (omega arith) v.linked (omega arith) z.loopless in
    let e : length l.standing ≡ length a.standing.now = omega arith in
    let few = rw c.in-Some.is at advance.says.few in
    let f = rw (e, c.in-Some.is) at advance.says.proceeds in
    record {
      few = omega (arith, c.add-count.ensures.crossings);
      linked =
          rw (arrived p.tabled p.most can (v.goes p.tabled []).played.placed (f p.tabled))
          (linked_on (length a.standing.now) a.table.now a.r.0 l.placement a.ahead.now l.bay-index (omega arith) v.linked);
      goes = λ t goals. going_more (v.goes t goals) (omega arith) (rest-lent _ c.place_in-from.ensures (search rules) c.add-count.ensures) (f t);
      below = advance.below;
    }

pub returns : goal.returns
returns c =
    let v = c.loop-bay.invariant in
    record { few = omega arith; tries = λ t goals. going-all _ _ _ _ _ _ _ _ _ _ _ _ _ (v.goes t goals) (omega arith); below = v.below }
