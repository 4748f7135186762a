-- `trial::set_up` meets its contract. Clear starts where bring ends.
use Rattle.std.proofs.Common.{◌∙◌, ◌≡◌, arith, length, rules, None, Some}
use Rattle.acting.proofs.Acting.{tried-done, tried-failed}
use Rattle.clear_on.proofs.FromBelow.{ready-again}
use Rattle.acting.proofs.Lending.{rest-lent}
use Rattle.clear_on.proofs.Attempting.{pair-none, pair-after, after-asks}
use Rattle.moving.specs.Bounds.{bring_most, clear_most}
use Rattle.trial.proofs.Attempting.{not-brought, at-junction, set-up-all}
use Rattle.trial.proofs.set_up.Goals as goal

pub bring-requires : goal.bring-requires
bring-requires c =
    let p = c.requires.ready in
    let z = c.requires.led_asks in
    record { ready = p; bring_asks = record { coupled = z.coupled; inside = z.bays_inside; short = z.short } }

pub returns-in_err-made : goal.returns-in_err-made
returns-in_err-made c =
    let bring = c.bring in
    let e : bring.result ≡ None = c.in_err-made.was in
    rw c.from_residual.ensures (record { few = pair-none _ _; sets_up = λ t led. not-brought (tried-failed (rw e at (bring.ensures.tries t))) })

pub offset_bounds-out-from : goal.offset_bounds-out-from
offset_bounds-out-from c =
    search (rules, c.place_in-from.ensures, c.bring.auto.out, c.well_formed)

pub clear_two-cleared-requires : goal.clear_two-cleared-requires
clear_two-cleared-requires c =
    let bring = c.bring in
    let p = c.requires.ready in
    let z = c.requires.led_asks in
    let e : bring.result ≡ Some c.in_ok-made.made = c.in_ok-made.was in
    let d = tried-done (rw e at (bring.ensures.tries p.tabled)) in
    let kp : length bring.new.placement ≡ length c.args.placement.now = bring.auto.placement in
    let kw : length bring.new.standing ≡ length c.args.standing.now = bring.auto.standing in
    let kf = bring.auto.empty in
    record {
      ready = ready-again p _ _ _ kw kf d.2.placed;
      clear_two_asks = record {
        coupled = record { leads = rw kp z.coupled.leads; follows = rw kp z.coupled.follows; differ = z.coupled.differ };
        junction = omega (arith, z.inside, kw);
        behind = rw kw (d.2.placed.inside c.args.lead.couple.follower.0 (rw kp z.coupled.follows));
      };
    }

pub after-requires : goal.after-requires
after-requires c =
    let bring = c.bring in
    let e : bring.result ≡ Some c.in_ok-made.made = c.in_ok-made.was in
    after-asks bring_most clear_most (omega (arith, rw e at bring.ensures.few, c.requires.led_asks.short)) c.clear_two-cleared.ensures.few (omega arith)

pub returns : goal.returns
returns c =
    let clear-two = c.clear_two-cleared in
    let bring = c.bring in
    let p = c.requires.ready in
    let z = c.requires.led_asks in
    let e : bring.result ≡ Some c.in_ok-made.made = c.in_ok-made.was in
    let kw : length bring.new.standing ≡ length c.args.standing.now = bring.auto.standing in
    record {
      few = pair-after bring_most (omega (arith, rw e at bring.ensures.few, z.short)) clear-two.ensures.few c.after.ensures;
      sets_up = λ t led.
          let x = tried-done (rw e at (bring.ensures.tries t)) in
          let there = at-junction x.0 led p.placed.apart z.coupled.leads z.coupled.follows z.coupled.differ x.1 _ x.2.moved in
          set-up-all x.0 x.1 x.2 (λ more sum a. rest-lent _ c.place_in-from.ensures c.out-2-1.given a) ((rw kw at clear-two.ensures.clears) t led.sound there) c.after.ensures;
    }
