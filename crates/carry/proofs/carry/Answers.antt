-- Each bay between the path's first and its last is looked after in the rest of the list.
use Rattle.std.proofs.Common.{◌≡◌, ℕ, List, ◌≤◌, ◌<◌, ◌+◌, ◌-◌, length, get_or, arith, rules}
use Rattle.std.proofs.Math.ListN.{drop_of_length-le}
use Rattle.std.proofs.Math.Seq.{length-take-le}
use Rattle.acting.proofs.Holding.{ready-again}
use Rattle.acting.proofs.Lending.{rest-lent}
use Rattle.home.proofs.Homing.{stages-stuck, homed-none, homed_more, homed-stops, homed_all, at_most, at-most-stuck, turn-due, turn_low, turn-homed}
use Rattle.carry.proofs.Carrying.{between, between-length, between-get, settles, settles-stuck, gone-homeward, gone-short, gone-home}
use Rattle.carry.proofs.carry.Goals as goal

-- a bay that is looked after is between the path's first bay and its last
module _ (k i : ℕ) (path : List ℕ) (fits : k ≤ length path) (above : 1 < i) (inside : i ≤ k - 1) where
  one : i - 1 - 1 + 1 ≡ i - 1
  one = omega arith

  here : i - 1 - 1 < length (between k path)
  here = omega (arith, between-length k path fits)

  get : get_or path (i - 1) 0 ≡ get_or (between k path) (i - 1 - 1) 0
  get = rw one at (between-get k path fits (i - 1 - 1) here)

pub returns-in_default : goal.returns-in_default
returns-in_default c = record { at_most = at-most-stuck; stages = λ t b o. stages-stuck ((c.go_along-gone.ensures.goes t b).nowhere c.in_default.is); settles = settles-stuck }

pub returns-then-k-lt3 : goal.returns-then-k-lt3
returns-then-k-lt3 c =
    let there = c.in-Some.is in
    let gone = c.go_along-gone.ensures in
    let low = gone.arrives.fits _ _ there in
    let same = length-take-le c.in-Some.k c.go_along-gone.new.path (omega arith) in
    record {
      at_most = at_most (omega (arith, gone.arrives.few _ _ there));
      stages = λ t b o. gone-short t c.requires.ready c.requires.turn_asks b ((gone.goes t b).there _ _ there) (omega (arith, same));
      settles = settles (gone.arrives.below _ _ there);
    }

pub loop-i-init : goal.loop-i-init
loop-i-init c =
    let there = c.in-Some.is in
    let gone = c.go_along-gone in
    let k = c.in-Some.k in
    let path = gone.new.path in
    let low = gone.ensures.arrives.fits _ _ there in
    let went = (gone.ensures.goes c.requires.ready.tabled c.requires.owned_asks.bound).there _ _ there in
    let same : length gone.new.standing ≡ length c.args.standing.now = omega arith in
    let all : length (between k path) ≤ k - 1 - 1 = omega (arith, between-length k path (omega arith)) in
    record {
      few = omega arith;
      settled = λ goals h apart many kept o. rw (drop_of_length-le (between k path) all) h.settled;
      homed = λ t goals many o. homed-none _ _ _ _ _ _ _ _ _ _ _ all (rw same went.played.placed);
      below = gone.ensures.arrives.below _ _ there;
    }

pub home_at-homed-requires : goal.home_at-homed-requires
home_at-homed-requires c =
    let l = c.loop-i in
    let a = c.args in
    let p = c.requires.ready in
    let z = c.requires.turn_asks in
    let b = c.requires.owned_asks.bound in
    let o = c.requires.owned_asks.owners in
    let there = c.in-Some.is in
    let gone = c.go_along-gone in
    let k = c.in-Some.k in
    let path = gone.new.path in
    let low = gone.ensures.arrives.fits _ _ there in
    let fits : k ≤ length path = omega arith in
    let went = (gone.ensures.goes p.tabled b).there _ _ there in
    let same : length gone.new.standing ≡ length a.standing.now = omega arith in
    let w : length l.standing ≡ length a.standing.now = omega arith in
    let h = gone-homeward p.tabled p z b went (omega (arith, length-take-le k path fits)) in
    let many : a.to.carrier.0 + 1 ≤ length b.goals = omega (arith, z.carrier_there, b.each.many) in
    let len : length l.placement ≡ length b.goals = omega (arith, b.each.many) in
    let within : l.i - 1 - 1 < length (between k path) = here k l.i path fits (omega arith) (omega arith) in
    let first = get k l.i path fits (omega arith) (omega arith) in
    let s = rw (← (one k l.i path fits (omega arith) (omega arith))) at ((rw same at l.invariant.settled) b.goals h b.each.apart many (omega (arith, b.each.many)) o) in
    let homed = (rw same at l.invariant.homed) p.tabled b.goals many o in
    record {
      ready = ready-again p _ _ _ w (omega arith) homed.played.placed;
      home_asks = record {
        finished_there = omega (arith, z.carrier_there);
        bay_there = rw (w, first) (turn_low h b.each.apart many (l.i - 1 - 1) within l.placement len s);
        owner_size = omega (arith, o.many);
        loopless = rw w z.loopless;
        due = rw first (turn-due h b.each.apart many (l.i - 1 - 1) within l.placement len s o);
        below = l.invariant.below;
      };
    }

pub returns-in_default-homed : goal.returns-in_default-homed
returns-in_default-homed c =
    let l = c.loop-i in
    let a = c.args in
    let z = c.requires.turn_asks in
    let there = c.in-Some.is in
    let gone = c.go_along-gone in
    let k = c.in-Some.k in
    let path = gone.new.path in
    let low = gone.ensures.arrives.fits _ _ there in
    let fits : k ≤ length path = omega arith in
    let same : length gone.new.standing ≡ length a.standing.now = omega arith in
    let w : length l.standing ≡ length a.standing.now = omega arith in
    let e = c.in_default-homed.is in
    let f = rw (w, get k l.i path fits (omega arith) (omega arith)) at c.home_at-homed.ensures.stages in
    rw e (record {
      at_most = at-most-stuck;
      stages = λ t b o.
          let went = (gone.ensures.goes t b).there _ _ there in
          let many : a.to.carrier.0 + 1 ≤ length b.goals = omega (arith, z.carrier_there, b.each.many) in
          let so_far = rw (← (one k l.i path fits (omega arith) (omega arith))) at ((rw same at l.invariant.homed) t b.goals many o) in
          gone-home t c.requires.ready z b went (stages-stuck (homed-stops so_far (here k l.i path fits (omega arith) (omega arith)) (rw e at (f t b.goals many o))));
      settles = settles-stuck;
    })

pub add-count-requires : goal.add-count-requires
add-count-requires c =
    let there = c.in-Some.is in
    let gone = c.go_along-gone.ensures.arrives in
    omega (arith, c.home_at-homed.ensures.at_most.few _ c.in-Ok.is, gone.few _ _ there, gone.fits _ _ there)

pub loop-i-preserved : goal.loop-i-preserved
loop-i-preserved c =
    let l = c.loop-i in
    let p = c.requires.ready in
    let there = c.in-Some.is in
    let gone = c.go_along-gone in
    let home = c.home_at-homed in
    let k = c.in-Some.k in
    let path = gone.new.path in
    let low = gone.ensures.arrives.fits _ _ there in
    let fits : k ≤ length path = omega arith in
    let kw : length gone.new.standing ≡ length c.args.standing.now = omega arith in
    let kl : length l.standing ≡ length gone.new.standing = omega arith in
    let e = c.in-Ok.is in
    let f = rw (kl, get k l.i path fits (omega arith) (omega arith)) at home.ensures.stages in
    let t₀ = rw (← kw) at p.tabled in
    let within : l.i - 1 - 1 < length (between k path) = here k l.i path fits (omega arith) (omega arith) in
    record {
      few = omega (arith, home.ensures.at_most.few _ e, c.add-count.ensures.crossings);
      settled = λ goals h apart many same o.
          turn-homed h apart many (l.i - 1 - 1) within l.placement (omega arith) (rw (← (one k l.i path fits (omega arith) (omega arith))) at (l.invariant.settled goals h apart many same o))
          t₀ (omega arith) (rw (← kw) at c.requires.turn_asks.loopless) (l.invariant.homed t₀ goals many o).played.placed (rw e at (f t₀ goals many o));
      homed = λ t goals many o.
          homed_more (rw (← (one k l.i path fits (omega arith) (omega arith))) at (l.invariant.homed t goals many o)) within
          (rest-lent _ c.place_in-from.ensures (search rules) c.add-count.ensures) (rw e at (f t goals many o));
      below = home.ensures.below;
    }

pub returns : goal.returns
returns c =
    let v = c.loop-i.invariant in
    let a = c.args in
    let z = c.requires.turn_asks in
    let there = c.in-Some.is in
    let gone = c.go_along-gone in
    let low = gone.ensures.arrives.fits _ _ there in
    let same : length gone.new.standing ≡ length a.standing.now = omega arith in
    let nil : c.loop-i.i - 1 ≡ 0 = omega arith in
    record {
      at_most = at_most (omega (arith, gone.ensures.arrives.few _ _ there));
      stages = λ t b o.
          let went = (gone.ensures.goes t b).there _ _ there in
          let many : a.to.carrier.0 + 1 ≤ length b.goals = omega (arith, z.carrier_there, b.each.many) in
          gone-home t c.requires.ready z b went (homed_all (rw nil at ((rw same at v.homed) t b.goals many o)));
      settles = settles v.below;
    }
