-- `trial::try_on` meets its contract. The path says who leads.
use Rattle.std.proofs.Common.{sym, ◌∙◌, ◌≤◌, arith, length, rules}
use Rattle.clear_on.proofs.Attempting.{in-bays}
use Rattle.trial.proofs.Copying.{part, second-leads, first-leads, tried-second, tried-first, part-long, part-inside, has-second}
use Rattle.trial.proofs.try_on.Goals as goal

pub bounds-placement-neighbour : goal.bounds-placement-neighbour
bounds-placement-neighbour c = c.requires.trial_on_asks.asks.second

pub slice_bounds-attempt-count : goal.slice_bounds-attempt-count
slice_bounds-attempt-count c =
    let h : 2 ≤ length c.args.path.now = has-second _ _ (sym c.second_is.ensures ∙ c.if-second_is.true) in
    omega (arith, h)

pub slice_bounds-attempt-start : goal.slice_bounds-attempt-start
slice_bounds-attempt-start c =
    let h : 2 ≤ length c.args.path.now = has-second _ _ (sym c.second_is.ensures ∙ c.if-second_is.true) in
    omega (arith, h)

pub attempt-requires : goal.attempt-requires
attempt-requires c =
    let z = c.requires.trial_on_asks in
    record {
      ready = c.requires.ready;
      led_asks = rw c.neighbour_leads-lead.ensures (record {
        coupled = record { leads = z.asks.second; follows = z.asks.first; differ = λ e. z.asks.differ (sym e) };
        inside = z.asks.inside;
        bays_inside = part-inside c.args.path.now 2 _ z.bays_inside;
        short = omega (arith, part-long c.args.path.now 2, z.short);
      });
    }

pub returns-then-second_is : goal.returns-then-second_is
returns-then-second_is c =
    let p = c.requires.ready in
    let z = c.requires.trial_on_asks.asks in
    let h = sym c.if-second_is.true ∙ c.second_is.ensures in
    let made = rw c.neighbour_leads-lead.ensures at c.attempt.ensures in
    record {
      few = made.few;
      attempts = λ t near short.
          let hu = in-bays t (p.placed.inside c.args.trial.carrier.0 z.first) in
          let hv = in-bays t z.inside in
          tried-second near hu hv short _ (part c.args.path.now 2) h (made.attempts t (second-leads near hu hv short h _ (part c.args.path.now 2)));
    }

pub attempt-requires-2 : goal.attempt-requires-2
attempt-requires-2 c =
    let z = c.requires.trial_on_asks in
    record {
      ready = c.requires.ready;
      led_asks = rw c.carrier_leads-lead.ensures (record {
        coupled = record { leads = z.asks.first; follows = z.asks.second; differ = z.asks.differ };
        inside = z.asks.inside;
        bays_inside = part-inside c.args.path.now 1 _ z.bays_inside;
        short = omega (arith, part-long c.args.path.now 1, z.short);
      });
    }

pub returns : goal.returns
returns c =
    let p = c.requires.ready in
    let z = c.requires.trial_on_asks.asks in
    let h = sym c.if-second_is.false ∙ c.second_is.ensures in
    let made = rw c.carrier_leads-lead.ensures at c.attempt-2.ensures in
    record {
      few = made.few;
      attempts = λ t near short.
          let hu = in-bays t (p.placed.inside c.args.trial.carrier.0 z.first) in
          let hv = in-bays t z.inside in
          tried-first near hu hv short _ (part c.args.path.now 1) h (made.attempts t (first-leads near hu hv short _ (part c.args.path.now 1)));
    }
