-- Each bay is brought in the rest of the list.
use Rattle.std.proofs.Common.{◌≡◌, length, arith, rules, None, Some}
use Rattle.acting.proofs.Acting.{tries-none}
use Rattle.acting.proofs.Holding.{ready-again}
use Rattle.acting.proofs.Lending.{rest-lent}
use Rattle.bring.proofs.Bringing.{bay_low, bringing-none, bringing-all, bringing-more, bringing-stops}
use Rattle.bring.proofs.bring.Goals as goal

pub loop-bay-init : goal.loop-bay-init
loop-bay-init c = record { few = omega arith; brings = λ t. bringing-none _ _ _ _ _ _ _ _ _ c.requires.ready.placed }

pub bring_one-requires : goal.bring_one-requires
bring_one-requires c =
    let p = c.requires.ready in
    let z = c.requires.bring_asks in
    let l = c.loop-bay in
    let e : length l.standing ≡ length c.args.standing.now = omega arith in
    record {
      ready = ready-again p _ _ _ e (omega arith) (l.invariant.brings p.tabled).played.placed;
      one_asks = record {
        coupled = record { leads = omega arith; follows = omega arith; differ = z.coupled.differ };
        inside = rw e (z.inside l.bay-index (omega arith));
      };
    }

pub returns-in_err-made : goal.returns-in_err-made
returns-in_err-made c =
    let z = c.requires.bring_asks in
    let l = c.loop-bay in
    let e : length l.standing ≡ length c.args.standing.now = omega arith in
    let f = rw (e, c.in_err-made.was) at c.bring_one.ensures.tries in
    rw c.from_residual.ensures (record {
      few = tt;
      tries = λ t. tries-none (bringing-stops (l.invariant.brings t) (omega arith) (omega arith) (omega arith) z.coupled.differ (bay_low t (z.inside l.bay-index (omega arith))) (f t));
    })

pub add-count-requires : goal.add-count-requires
add-count-requires c = let few = rw c.in_ok-made.was at c.bring_one.ensures.few in omega arith

pub loop-bay-preserved : goal.loop-bay-preserved
loop-bay-preserved c =
    let z = c.requires.bring_asks in
    let l = c.loop-bay in
    let e : length l.standing ≡ length c.args.standing.now = omega arith in
    let few = rw c.in_ok-made.was at c.bring_one.ensures.few in
    let f = rw (e, c.in_ok-made.was) at c.bring_one.ensures.tries in
    record {
      few = omega (arith, c.add-count.ensures.crossings);
      brings = λ t. bringing-more (l.invariant.brings t) (omega arith) (omega arith) (omega arith) z.coupled.differ (bay_low t (z.inside l.bay-index (omega arith)))
          (rest-lent _ c.place_in-from.ensures (search rules) c.add-count.ensures) (f t);
    }

pub returns : goal.returns
returns c = record { few = omega arith; tries = λ t. bringing-all (c.loop-bay.invariant.brings t) (omega arith) }
