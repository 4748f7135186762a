-- `step::step` meets its contract. Where the step fails nothing has moved; else the bays of the finished carriers are the ones before with u and w traded.
use Rattle.std.proofs.Common.{◌≡◌, refl, arith, rules, None, Some}
use Rattle.step.proofs.Settling.{settled-after}
use Rattle.step.proofs.step.Goals as goal

pub step_to-requires : goal.step_to-requires
step_to-requires c = record { ready = c.requires.ready; step_asks = c.requires.step_asks }

pub returns-in_err-done : goal.returns-in_err-done
returns-in_err-done c =
    let step-to = c.step_to in
    let p = c.requires.ready in
    let z = c.requires.step_asks in
    let e : step-to.result ≡ None = c.in_err-done.was in
    let a = rw e at step-to.ensures.proceeds in
    let f = a p.tabled in
    rw c.from_residual.ensures (record { says = record { few = tt; proceeds = a }; below = rw (f.still refl) z.below })

pub settle-requires : goal.settle-requires
settle-requires c =
    let p = c.requires.ready in
    let z = c.requires.step_asks in
    record {
      size = z.below.size;
      from_low = omega (arith, p.placed.inside c.args.next.carrier.0 z.can.carrier_there, p.most);
      to_low = omega (arith, z.can.bay_there, p.most);
    }

pub returns : goal.returns
returns c =
    let step-to = c.step_to in
    let p = c.requires.ready in
    let z = c.requires.step_asks in
    let e : step-to.result ≡ Some c.in_ok-done.done = c.in_ok-done.was in
    let a = rw e at step-to.ensures.proceeds in
    record {
      says = record { few = rw e at step-to.ensures.few; proceeds = a };
      below = settled-after p.tabled p.most z.can p.placed
          (a p.tabled) z.below c.settle.auto.settled c.settle.ensures;
    }
