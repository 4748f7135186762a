-- Each carrier has its turn in the rest of the list.
use Rattle.std.proofs.Common.{◌≡◌, ◌<◌, length, get_or, refl, arith, rules}
use Rattle.acting.proofs.Holding.{ready-again}
use Rattle.acting.proofs.Lending.{rest-lent}
use Rattle.carry.proofs.Carrying.{settles, settles-stuck}
use Rattle.carry.proofs.FromBelow.{stages-stuck}
use Rattle.carry.specs.FromBelow.{Goals, Bound}
use Rattle.carry_all.proofs.Serving.{served-none, served-more, served-stuck, served-all, home-more}
use Rattle.carry_all.proofs.carry_all.Goals as goal

pub is_carousel-in_carousel-requires : goal.is_carousel-in_carousel-requires
is_carousel-in_carousel-requires c = (omega arith, omega arith)

pub loop-r-init : goal.loop-r-init
loop-r-init c = record {
  few = omega arith;
  home = record { home = λ i h. absurd (omega arith) };
  served = λ t. served-none _ _ _ _ _ _ _ c.requires.ready.placed;
  below = c.requires.carry_all_asks.below;
}

pub overflow_cast-number : goal.overflow_cast-number
overflow_cast-number c = omega (arith, c.requires.ready.placed.few)

pub carry-carried-requires : goal.carry-carried-requires
carry-carried-requires c =
    let p = c.requires.ready in
    let z = c.requires.carry_all_asks in
    let l = c.loop-r in
    let v = l.invariant in
    let e : length l.standing ≡ length c.args.standing.now = omega arith in
    record {
      ready = ready-again p _ _ _ e (omega arith) (v.served p.tabled).played.placed;
      turn_asks = record { carrier_there = omega (arith, z.each.many); loopless = rw e z.loopless; kind = rw e c.is_carousel-in_carousel.ensures; below = v.below };
      owned_asks = record {
        bound = record {
          goals = c.args.goals.now;
          each = record { many = omega (arith, z.each.many); apart = z.each.apart; inside = rw e z.each.inside };
          own = refl;
          below = v.home;
        };
        owners = rw e z.owners;
      };
    }

pub returns-in_default : goal.returns-in_default
returns-in_default c =
    let z = c.requires.carry_all_asks in
    let l = c.loop-r in
    let v = l.invariant in
    let carry = c.carry-carried in
    let e : length l.standing ≡ length c.args.standing.now = omega arith in
    let s = c.in_default.is in
    let f = rw e at carry.ensures.stages in
    let g : Goals (length c.args.standing.now) c.args.goals.now l.placement = record { many = omega (arith, z.each.many); apart = z.each.apart; inside = z.each.inside } in
    let b : Bound (length c.args.standing.now) l.placement l.r (get_or c.args.goals.now l.r 0) = record { goals = c.args.goals.now; each = g; own = refl; below = v.home } in
    rw s (record { stages = λ t. stages-stuck (served-stuck (v.served t) (omega arith) (rw s at (f t b z.owners))); settles = settles-stuck })

pub add-count-requires : goal.add-count-requires
add-count-requires c = omega (arith, c.carry-carried.ensures.at_most.few _ c.in-Ok.is, c.requires.carry_all_asks.each.many, c.requires.ready.placed.few)

pub loop-r-preserved : goal.loop-r-preserved
loop-r-preserved c =
    let p = c.requires.ready in
    let z = c.requires.carry_all_asks in
    let l = c.loop-r in
    let v = l.invariant in
    let carry = c.carry-carried in
    let kw : length l.standing ≡ length c.args.standing.now = omega arith in
    let e = c.in-Ok.is in
    let f = rw kw at carry.ensures.stages in
    let g : Goals (length c.args.standing.now) c.args.goals.now l.placement = record { many = omega (arith, z.each.many); apart = z.each.apart; inside = z.each.inside } in
    let bound : Bound (length c.args.standing.now) l.placement l.r (get_or c.args.goals.now l.r 0) = record { goals = c.args.goals.now; each = g; own = refl; below = v.home } in
    let hr : l.r < length l.placement = omega (arith, z.each.many) in
    record {
      few = omega (arith, carry.ensures.at_most.few _ e, c.add-count.ensures.crossings);
      home = home-more p.tabled p.most z.loopless c.args.goals.now l.r l.placement (v.served p.tabled).played.placed g hr v.home (rw e at (f p.tabled bound z.owners));
      served = λ t. served-more (v.served t) (omega arith) (rest-lent _ c.place_in-from.ensures (search rules) c.add-count.ensures) (rw e at (f t bound z.owners));
      below = carry.ensures.settles.below _ e;
    }

pub returns : goal.returns
returns c =
    let v = c.loop-r.invariant in
    let all : c.loop-r.r ≡ length c.args.goals.now = omega arith in
    record { stages = λ t. served-all (v.served t) (omega arith); settles = settles (rw all at v.below) }
