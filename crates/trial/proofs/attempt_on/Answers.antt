-- What was set up is in the list, so undo reads it back.
use Rattle.std.proofs.Common.{◌≡◌, min, max, arith, rules}
use Rattle.exchange.proofs.Exchanging.{length-exchange}
use Rattle.trial.proofs.Attempting.{attempts-none, attempted}
use Rattle.trial.proofs.attempt_on.Goals as goal

pub returns-in_err-x : goal.returns-in_err-x
returns-in_err-x c = rw c.from_residual.ensures (record { few = tt; attempts = λ t led. attempts-none ((c.set_up.ensures.sets_up t led).missing c.in_err-x.was) })

pub exchange-d-requires : goal.exchange-d-requires
exchange-d-requires c =
    let f = c.set_up.ensures.few.few _ _ _ c.in_ok-x.was in
    omega (arith, f.0)

pub undo-requires : goal.undo-requires
undo-requires c =
    let f = c.set_up.ensures.few.few _ _ _ c.in_ok-x.was in
    let e = rw length-exchange at c.exchange-d.ensures.counted in
    record { many_bound = omega (arith, e); many_bound_2 = omega (arith, e, f.0) }

pub overflow_add-crossings : goal.overflow_add-crossings
overflow_add-crossings c =
    let f = c.set_up.ensures.few.few _ _ _ c.in_ok-x.was in
    let e = rw length-exchange at c.exchange-d.ensures.counted in
    omega (arith, e, f.0)

pub returns : goal.returns
returns c =
    let set-up = c.set_up.ensures in
    let p = c.requires.ready in
    let z = c.requires.led_asks.coupled in
    let f = set-up.few.few _ _ _ c.in_ok-x.was in
    let e = rw length-exchange at c.exchange-d.ensures.counted in
    record {
      few = omega (arith, e, f.0);
      attempts = λ t led.
          let q = (set-up.sets_up t led).both _ _ _ c.in_ok-x.was in
          let low : c.min.result ≡ min c.in_ok-x.x.0 c.in_ok-x.y.0 = search rules in
          let high : c.max.result ≡ max c.in_ok-x.x.0 c.in_ok-x.y.0 = search rules in
          attempted q p.placed z.leads z.follows z.differ _ t.joins p.most led (rw (low, high) at c.exchange-d.ensures) c.undo.ensures c.undo.auto.out;
    }
