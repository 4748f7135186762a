-- `trial::attempt` meets its contract. The copies are the placement.
use Rattle.std.proofs.Common.{sym, ap, length, rules}
use Rattle.clear_on.proofs.Attempting.{ready-copy}
use Rattle.trial.proofs.attempt.Goals as goal

pub slice_bounds-attempt_on-end : goal.slice_bounds-attempt_on-end
slice_bounds-attempt_on-end c =
    let copy = c.copy in
    sym (ap length copy.ensures)

pub slice_bounds-attempt_on-end-2 : goal.slice_bounds-attempt_on-end-2
slice_bounds-attempt_on-end-2 c = sym (ap length c.copy-2.ensures)

pub attempt_on-requires : goal.attempt_on-requires
attempt_on-requires c =
    let copy2 = c.copy-2 in
    let copy = c.copy in
    let p = c.requires.ready in
    let z = c.requires.led_asks in
    let e = copy.ensures in
    let d = copy2.ensures in
    record {
      ready = ready-copy p _ _ _ e d (search rules) c.keep.ensures.row;
      led_asks = record {
        coupled = record { leads = rw e z.coupled.leads; follows = rw e z.coupled.follows; differ = z.coupled.differ };
        inside = rw d z.inside;
        bays_inside = rw d z.bays_inside;
        short = z.short;
      };
    }

pub returns : goal.returns
returns c =
    let attempt-on = c.attempt_on in
    let copy2 = c.copy-2 in
    let copy = c.copy in
    let e = copy.ensures in
    let d = copy2.ensures in
    record { few = attempt-on.ensures.few; attempts = rw (e, d) at attempt-on.ensures.attempts }
