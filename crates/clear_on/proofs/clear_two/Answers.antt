-- `clear_on::clear_two` meets its contract. Going on starts where clearing once ended, and there the two still stand at v and b.
use Rattle.std.proofs.Common.{◌∙◌, ◌≡◌, arith, length, rules}
use Rattle.acting.proofs.Holding.{ready-again}
use Rattle.acting.proofs.Lending.{rest-lent}
use Rattle.moving.specs.Bounds.{clear_once_most, attempt_most}
use Rattle.clear_on.proofs.Attempting.{pair-none, pair-both, pair-after, after-asks, still-there, two_at_once, two-few, two-in-time}
use Rattle.clear_on.proofs.clear_two.Goals as goal

pub clear-cleared-requires : goal.clear-cleared-requires
clear-cleared-requires c =
    let z = c.requires.clear_two_asks in
    record { ready = c.requires.ready; clear_asks = record { junction = z.junction; behind = z.behind } }

pub offset_bounds-out-from : goal.offset_bounds-out-from
offset_bounds-out-from c =
    search (rules, c.place_in-from.ensures, c.clear-cleared.auto.out, c.well_formed)

pub go_on-rest-requires : goal.go_on-rest-requires
go_on-rest-requires c =
    let clear = c.clear-cleared in
    let p = c.requires.ready in
    let z = c.requires.clear_two_asks in
    let k = (clear.ensures.clears p.tabled).single _ _ c.in-Single.is in
    let kp : length clear.new.placement ≡ length c.args.placement.now = clear.auto.placement in
    let kw : length clear.new.standing ≡ length c.args.standing.now = clear.auto.standing in
    record {
      ready = ready-again p _ _ _ kw clear.auto.empty k.played.placed;
      kept_asks = record {
        coupled = record { leads = rw kp z.coupled.leads; follows = rw kp z.coupled.follows; differ = z.coupled.differ };
        junction = rw kw z.junction;
        behind = rw kw z.behind;
        kept = rw kw k.low;
        free = k.free;
      };
    }

pub after-requires : goal.after-requires
after-requires c =
    let f = c.clear-cleared.ensures.few.single _ _ c.in-Single.is in
    after-asks clear_once_most attempt_most f.1 c.go_on-rest.ensures.few (omega arith)

pub returns-in-Both : goal.returns-in-Both
returns-in-Both c =
    let clear = c.clear-cleared in
    let f = clear.ensures.few.few _ _ _ c.in-Both.is in
    record {
      few = pair-both (omega (arith, f.2)) (omega arith);
      clears = λ t s j. two_at_once t.yard _ _ _ _ _ ((clear.ensures.clears t).both _ _ _ c.in-Both.is);
    }

pub returns-in-Single : goal.returns-in-Single
returns-in-Single c =
    let clear = c.clear-cleared in
    let p = c.requires.ready in
    let z = c.requires.clear_two_asks in
    let f = clear.ensures.few.single _ _ c.in-Single.is in
    let kw : length clear.new.standing ≡ length c.args.standing.now = clear.auto.standing in
    record {
      few = pair-after clear_once_most f.1 c.go_on-rest.ensures.few c.after.ensures;
      clears = λ t s j.
          let k = (clear.ensures.clears t).single _ _ c.in-Single.is in
          let there = still-there t.yard _ _ _ _ _ s p.placed.apart z.coupled.leads z.coupled.follows j _ k.played.moved in
          two-in-time t.yard _ _ _ _ _ k (λ more sum a. rest-lent _ c.place_in-from.ensures c.out-in-Single-1.given a) ((rw kw at c.go_on-rest.ensures.goes_on) t there) c.after.ensures;
    }

pub returns-in-Short : goal.returns-in-Short
returns-in-Short c =
    let clear = c.clear-cleared in
    record { few = pair-none _ _; clears = λ t s j. two-few t.yard _ _ _ _ _ ((clear.ensures.clears t).short c.in-Short.is) }
