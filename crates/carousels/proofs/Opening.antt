-- Where some legal list still leads to the goals, the carrier whose turn it is can go round to its goal, one way or the other,
-- past no finished carrier. Else a finished one stands before the goal on either way, and with r at its goal those two and r
-- would be in another order than now.
use mathlib.Core.Path.{◌≡◌, sym, ◌∙◌, ap}
use mathlib.Core.Logic.{◌⊎◌, inl, inr, ⊎_elim}
use mathlib.Core.List.{List}
use Prim.Native.Nat.{ℕ, ◌<◌, ◌≤◌}
use native.Mathlib.Omega.{arith}
use lib.ListN.{length, take}
use Rattle.paper.specs.Basics.{elem, Out}
use Rattle.paper.specs.Yard.{Bay, Carrier, Yard, Placement, bay_of}
use Rattle.paper.specs.Path.{Free, Way}
use Rattle.paper.proofs.Rings.{Walk}
use Rattle.paper.proofs.Nearest.{walk-way}
use Rattle.paper.proofs.Playing.{Sound, Good, whose, out-finished}
use Rattle.carousels.specs.Round.{Round}
use Rattle.carousels.specs.Due.{Due}
use Rattle.carousels.specs.Order.{Before}
use Rattle.carousels.proofs.Circling.{ahead-back, seen-between, seen-past}
use Rattle.carousels.proofs.Leading.{leads-length, leads-good}
use Rattle.carousels.proofs.Ordering.{low, Three, order-kept}
use Rattle.carousels.proofs.Mirroring.{mirror, mirror-ahead}
use Rattle.carousels.proofs.Seeing.{Met, first-met, one_place, far, on_bay, far-low, far-own, far-same, far-on, on-far, on_none, walk-on}

-- ## What is known when it is r's turn

module _ (Y : Yard) (sound : Sound Y) (goals : Placement) (r : Carrier) (p : Placement) (due : Due Y goals r p) where
  pub same : length p ≡ length goals
  same = leads-length Y due.leads

  pub goals-good : Good Y goals
  goals-good = leads-good Y sound due.good due.leads

  -- the bays of carriers, now and at the goals, are bays of the yard
  pub now-low : (c : Carrier) → c < length p → bay_of p c < Y.bays
  now-low c h = low Y (bay_of p c) (due.good.inside c h)

  pub then-low : (c : Carrier) → c < length p → bay_of goals c < Y.bays
  then-low c h = low Y (bay_of goals c) (goals-good.inside c (omega (arith, same)))

  pub own-low : bay_of p r < Y.bays
  own-low = now-low r due.turn

  -- the finished carriers are among all
  pub finished_there : (c : Carrier) → c < r → c < length p
  finished_there c h = omega (arith, due.turn)

  -- no finished carrier stands at r's bay or at its goal
  pub not_own : (c : Carrier) → c < r → bay_of p c ≡ bay_of p r → ⊥
  not_own c h e = let z = due.good.apart c r (finished_there c h) due.turn e in omega arith

  not-goal : (c : Carrier) → c < r → bay_of p c ≡ bay_of goals r → ⊥
  not-goal c h e =
      let z = goals-good.apart c r (omega (arith, same, due.turn)) (omega (arith, same, due.turn)) (sym (due.home c h) ∙ e) in
      omega arith

  -- and at its own goal each stands now
  pub home-place : (o : Round Y) (c : Carrier) → c < r → o.place (bay_of goals c) ≡ o.place (bay_of p c)
  home-place o c h = ap o.place (sym (due.home c h))

  pub own-free : Free Y (take r p) (bay_of p r)
  own-free = (due.good.inside r due.turn, out-finished r p (bay_of p r) not_own)

  -- ## One way round

  -- going up, one meets a finished carrier before r's goal
  abbrev Barred : Round Y → Type 0
  Barred o = (f : Carrier) × (f < r) × (far Y o (bay_of p r) (bay_of p f) < far Y o (bay_of p r) (bay_of goals r))

  module _ (o : Round Y) where
    -- nobody finished on the way up: that is the way
    way_up : ((j : ℕ) → 0 < j → j ≤ far Y o (bay_of p r) (bay_of goals r) → Out (on_bay Y o (bay_of p r) j) (take r p))
        → (l : List Bay) × Way Y (take r p) (bay_of p r) l (bay_of goals r)
    way_up f =
        let u = bay_of p r in
        let g = bay_of goals r in
        let hg = then-low r due.turn in
        let w = walk-on Y o u own-low (take r p) 0 (far Y o u g) (omega arith) (far-low Y o u own-low g hg) f in
        let v : Walk Y (take r p) u w.0 g = rw (on_none Y o u own-low, on-far Y o u own-low g hg) at w.1 in
        let t = walk-way Y (take r p) own-free v in
        (t.0, t.2)

    barred : Met (λ j. elem (on_bay Y o (bay_of p r) j) (take r p)) (far Y o (bay_of p r) (bay_of goals r)) → Barred o
    barred m =
        let u = bay_of p r in
        let g = bay_of goals r in
        let hg = then-low r due.turn in
        let (f, hf, is_f) = whose r p (on_bay Y o u m.at) m.hit in
        let met : far Y o u (bay_of p f) ≡ m.at = ap (far Y o u) is_f ∙ far-on Y o u own-low m.at (omega (arith, m.within, far-low Y o u own-low g hg)) in
        let apart : far Y o u (bay_of p f) ≡ far Y o u g → ⊥ =
        λ z. not-goal f hf (far-same Y o u own-low (bay_of p f) g (now-low f (finished_there f hf)) hg z) in
        (f, hf, omega (arith, m.within))

    way-or-barred : ((l : List Bay) × Way Y (take r p) (bay_of p r) l (bay_of goals r)) ⊎ Barred o
    way-or-barred = ⊎_elim (λ f. inl (way_up f)) (λ m. inr (barred m)) (first-met _ (far Y o (bay_of p r) (bay_of goals r)))

  -- ## Not barred both ways

  -- With f before the goal and e after it, r would have to pass one of them.
  not-around : (o : Round Y) (f e : Carrier) → f < r → e < r → far Y o (bay_of p r) (bay_of p f) < far Y o (bay_of p r) (bay_of goals r)
      → far Y o (bay_of p r) (bay_of goals r) < far Y o (bay_of p r) (bay_of p e) → ⊥
  not-around o f e hf he before behind =
      let n = Y.bays in
      let u = bay_of p r in
      let g = bay_of goals r in
      let U = o.place_low u own-low in
      let G = o.place_low g (then-low r due.turn) in
      let F = o.place_low (bay_of p f) (now-low f (finished_there f hf)) in
      let E = o.place_low (bay_of p e) (now-low e (finished_there e he)) in
      let three : Three p r f e = record {
        a-there = due.turn;
        b_there = finished_there f hf;
        c-there = finished_there e he;
        ab = λ z. omega arith;
        ac = λ z. omega arith;
        bc = λ z. let s : far Y o u (bay_of p f) ≡ far Y o u (bay_of p e) = ap (λ c. far Y o u (bay_of p c)) z in omega arith;
      } in
      let kept : Before Y o goals r f e = (order-kept Y sound o p goals due.good due.leads r f e three).0 (omega arith) in
      let then-here : far Y o g (bay_of p f) < far Y o g (bay_of p e) = rw (home-place o f hf, home-place o e he) at kept in
      let past = seen-past n (o.place u) (o.place g) (o.place (bay_of p f)) U G F before in
      let on = seen-between n (o.place u) (o.place g) (o.place (bay_of p e)) U G E (omega arith) in
      let small = far-low Y o u own-low (bay_of p e) (now-low e (finished_there e he)) in
      omega arith

  -- what is met before the goal going down is behind it going up
  not-both-barred : (o : Round Y) → Barred o → Barred (mirror Y o) → ⊥
  not-both-barred o (f, hf, up) (e, he, down) =
      let n = Y.bays in
      let u = bay_of p r in
      let g = bay_of goals r in
      let hg = then-low r due.turn in
      let his = now-low e (finished_there e he) in
      let turned_round : far Y o (bay_of p e) u < far Y o g u = rw (mirror-ahead Y o u (bay_of p e) own-low his, mirror-ahead Y o u g own-low hg) at down in
      let u-not-g : o.place u ≡ o.place g → ⊥ =
      λ z. let s : far Y o u g ≡ far Y o u u = ap (far Y o u) (sym (one_place Y o u g own-low hg z)) in let t = far-own Y o u own-low in omega arith in
      let u-not-e : o.place u ≡ o.place (bay_of p e) → ⊥ = λ z. not_own e he (sym (one_place Y o u (bay_of p e) own-low his z)) in
      let back-g = ahead-back n (o.place u) (o.place g) (o.place_low u own-low) (o.place_low g hg) u-not-g in
      let back-e = ahead-back n (o.place u) (o.place (bay_of p e)) (o.place_low u own-low) (o.place_low (bay_of p e) his) u-not-e in
      not-around o f e hf he up (omega arith)

  -- r's goal is reached from r's bay past no finished carrier.
  pub way-open : Round Y → (l : List Bay) × Way Y (take r p) (bay_of p r) l (bay_of goals r)
  way-open o =
      ⊎_elim (λ w. w)
      (λ b. ⊎_elim (λ w. w) (λ c. absurd (not-both-barred o b c)) (way-or-barred (mirror Y o)))
      (way-or-barred o)
