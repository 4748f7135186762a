-- `attempts::go_round` meets its contract. Both carriers go one bay on, and back once the bays are vacated; meanwhile they are held.
use Rattle.std.proofs.Common.{◌≡◌, sym, ◌∙◌, arith, length, rules, None, Some}
use Rattle.acting.proofs.Acting.{tries-none}
use Rattle.acting.proofs.Holding.{ready-again}
use Rattle.acting.proofs.Lending.{rest-lent, on-the-rest, tries-on-the-rest}
use Rattle.attempts.proofs.Attempting.{round-ready, round-done, round-fails}
use Rattle.attempts.proofs.go_round.Goals as goal

pub enter-forth-requires : goal.enter-forth-requires
enter-forth-requires c =
    let p = c.requires.ready in
    let k = c.requires.attempt_asks.around in
    record { coupled = k.coupled; inside = k.kept; most = p.most; empty_size = p.empty_size; free = k.free; placed = p.placed }

pub offset_bounds-out-from : goal.offset_bounds-out-from
offset_bounds-out-from c =
    search (rules, c.place_in-from.ensures, c.enter-forth.auto.out, c.well_formed)

pub vacate_both-requires : goal.vacate_both-requires
vacate_both-requires c =
    let enter = c.enter-forth in
    let p = c.requires.ready in
    let k = c.requires.attempt_asks.around in
    let kw : length enter.new.standing ≡ length c.args.standing.now = enter.auto.standing in
    record { ready = ready-again p _ _ _ kw enter.auto.empty enter.ensures.placed; aside_asks = record { junction = rw kw k.junction; held = rw kw k.kept; emptied = rw kw k.behind; inside = rw kw c.requires.attempt_asks.inside } }

pub returns-in_err-more : goal.returns-in_err-more
returns-in_err-more c =
    let vacate-both = c.vacate_both in
    let enter = c.enter-forth in
    let z = c.requires.attempt_asks in
    let k = z.around in
    let e : vacate-both.result ≡ None = c.in_err-more.was in
    let kw : length enter.new.standing ≡ length c.args.standing.now = enter.auto.standing in
    rw c.from_residual.ensures (record {
      few = tt;
      tries = λ t j. tries-none (round-fails t k.coupled.differ k.coupled.leads k.coupled.follows z.inside k.behind enter.ensures _ j (rw e at ((rw kw at vacate-both.ensures.tries) t)));
    })

pub add-made-requires : goal.add-made-requires
add-made-requires c =
    let vacate-both = c.vacate_both in
    let two : c.enter-forth.result.crossings ≡ 2 = omega (arith, c.enter-forth.ensures.counted) in
    let e : vacate-both.result ≡ Some c.in_ok-more.more = c.in_ok-more.was in
    omega (arith, two, rw e at vacate-both.ensures.few)

pub offset_bounds-out-end : goal.offset_bounds-out-end
offset_bounds-out-end c =
    search (rules, c.place_in-end.ensures, c.out-2-1.given.1, c.enter-forth.auto.out, c.well_formed)

pub enter-back-requires : goal.enter-back-requires
enter-back-requires c =
    let vacate-both = c.vacate_both in
    let enter = c.enter-forth in
    let p = c.requires.ready in
    let z = c.requires.attempt_asks in
    let k = z.around in
    let e : vacate-both.result ≡ Some c.in_ok-more.more = c.in_ok-more.was in
    let kw : length enter.new.standing ≡ length c.args.standing.now = enter.auto.standing in
    let kv : length vacate-both.new.standing ≡ length enter.new.standing = vacate-both.auto.standing in
    let s = tries-on-the-rest (rest-lent _ c.place_in-from.ensures c.out-2-1.given c.add-made.ensures) (rw e at ((rw kw at vacate-both.ensures.tries) p.tabled)) in
    let r = round-ready p.tabled k.coupled.differ k.coupled.leads k.coupled.follows z.inside k.behind enter.ensures _ s in
    record {
      coupled = record { leads = r.1; follows = r.0; differ = λ q. k.coupled.differ (sym q) };
      inside = omega (arith, kv, kw, k.behind);
      most = omega (arith, kv, kw, p.most);
      empty_size = omega (arith, vacate-both.auto.empty, enter.auto.empty, p.empty_size);
      free = r.2;
      placed = rw (kv, kw) r.3;
    }

pub add-requires : goal.add-requires
add-requires c =
    let vacate-both = c.vacate_both in
    let two : c.enter-forth.result.crossings ≡ 2 = omega (arith, c.enter-forth.ensures.counted) in
    let last : c.enter-back.result.crossings ≡ 2 = omega (arith, c.enter-back.ensures.counted) in
    let e : vacate-both.result ≡ Some c.in_ok-more.more = c.in_ok-more.was in
    omega (arith, two, last, rw e at vacate-both.ensures.few, c.add-made.ensures.crossings)

pub returns : goal.returns
returns c =
    let enter2 = c.enter-back in
    let vacate-both = c.vacate_both in
    let enter = c.enter-forth in
    let z = c.requires.attempt_asks in
    let k = z.around in
    let two : enter.result.crossings ≡ 2 = omega (arith, enter.ensures.counted) in
    let last : enter2.result.crossings ≡ 2 = omega (arith, enter2.ensures.counted) in
    let e : vacate-both.result ≡ Some c.in_ok-more.more = c.in_ok-more.was in
    let kw : length enter.new.standing ≡ length c.args.standing.now = enter.auto.standing in
    let kv : length vacate-both.new.standing ≡ length enter.new.standing = vacate-both.auto.standing in
    record {
      few = omega (arith, two, last, rw e at vacate-both.ensures.few, c.add-made.ensures.crossings, c.add.ensures.crossings);
      tries = λ t j.
          let s = tries-on-the-rest (rest-lent _ c.place_in-from.ensures c.out-2-1.given c.add-made.ensures) (rw e at ((rw kw at vacate-both.ensures.tries) t)) in
          let back = on-the-rest (rest-lent _ c.place_in-end.ensures c.out-3-1.given c.add.ensures) (rw (kv, kw) at enter2.ensures) in
          round-done t k.coupled.differ k.coupled.leads k.coupled.follows z.inside k.behind enter.ensures _ s j back;
    }
