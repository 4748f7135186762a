-- `clear_on::go_on` meets its contract. The attempts are with the junction's other neighbours.
use Rattle.std.proofs.Common.{◌≡◌, arith, rules, Some}
use Rattle.keeping.proofs.Around.{inside_of, inside-less}
use Rattle.clear_on.proofs.Attempting.{others-is, pair-none, pair-both, gone-none, gone-both}
use Rattle.clear_on.proofs.go_on.Goals as goal

pub either_way-requires : goal.either_way-requires
either_way-requires c =
    let remove2 = c.remove-2 in
    let remove = c.remove in
    let join-row = c.join_row in
    let p = c.requires.ready in
    let z = c.requires.kept_asks in
    let i = inside_of p.tabled _ _ _ _ z.junction join-row.ensures remove.ensures in
    record { ready = p; others_ask = record { around = z; others_size = omega (arith, remove2.auto.ws, remove.auto.ws, join-row.auto.acc); among = inside-less i _ _ remove2.ensures } }

pub returns-in_err-x : goal.returns-in_err-x
returns-in_err-x c =
    let remove2 = c.remove-2 in
    let remove = c.remove in
    let join-row = c.join_row in
    rw c.from_residual.ensures (record {
      few = pair-none _ _;
      goes_on = λ t j. gone-none ((c.either_way.ensures.keeps t j (others-is t _ _ _ _ _ _ c.requires.ready.most c.requires.kept_asks.junction join-row.ensures remove.ensures remove2.ensures)).nothing c.in_err-x.was);
    })

pub returns : goal.returns
returns c =
    let either_way = c.either_way in
    let remove2 = c.remove-2 in
    let remove = c.remove in
    let join-row = c.join_row in
    let e = c.in_ok-x.was in
    record {
      few = pair-both (omega (arith, rw e at either_way.ensures.few)) (omega arith);
      goes_on = λ t j.
          let d = (either_way.ensures.keeps t j (others-is t _ _ _ _ _ _ c.requires.ready.most c.requires.kept_asks.junction join-row.ensures remove.ensures remove2.ensures)).one _ _ e in
          gone-both d.0 d.1 d.2;
    }
