-- Counting the carriers between r and the next finished one. They are the same now and at the goals, since the order is kept;
-- where r's goal is between the two, fewer places are left for them there, so not all places between are taken now.
use mathlib.Core.Path.{◌≡◌, sym, ◌∙◌, ap}
use Prim.Native.Nat.{ℕ, suc, ◌<◌, ◌≤◌, ◌+◌, ◌-◌}
use native.Mathlib.Omega.{arith}
use lib.Dec.{eqb}
use lib.ListN.{length}
use borrow.Author.Tests.{eqb-true, eqb-false}
use Rattle.paper.specs.Basics.{In}
use Rattle.paper.specs.Yard.{Carrier, Yard, Placement, bay_of, carrier_at}
use Rattle.paper.proofs.Tests.{by_cases}
use Rattle.paper.proofs.Playing.{Sound, bay-in, place_of-bay, place_of-there}
use Rattle.carousels.specs.Round.{Round}
use Rattle.carousels.specs.Due.{Due}
use Rattle.carousels.specs.Order.{Before}
use Rattle.carousels.proofs.Circling.{seen-between}
use Rattle.carousels.proofs.Ordering.{Three, order-kept}
use Rattle.carousels.proofs.Seeing.{far, on_bay, far-low, far-own, far_some, far-same, far-on, on_none}
use Rattle.carousels.proofs.Opening.{same, goals-good, now-low, then-low, own-low, finished_there, home-place}
use Rattle.carousels.proofs.Crowding.{no_more}

module _ (Y : Yard) (sound : Sound Y) (goals : Placement) (r : Carrier) (p : Placement) (due : Due Y goals r p) (o : Round Y) where
  -- the carrier that stands d places on from r
  abbrev at : ℕ → Carrier
  at d = carrier_at p (on_bay Y o (bay_of p r) d)

  own : bay_of p r < Y.bays
  own = own-low Y sound goals r p due

  at-far : (d : ℕ) → d < Y.bays → In (on_bay Y o (bay_of p r) d) p → far Y o (bay_of p r) (bay_of p (at d)) ≡ d
  at-far d h taken = ap (far Y o (bay_of p r)) (place_of-bay p (on_bay Y o (bay_of p r) d) taken) ∙ far-on Y o (bay_of p r) own d h

  -- ## Two empty bays in the yard: not every place is taken

  pub not-all-taken : length p + 2 ≤ Y.bays → ((j : ℕ) → 0 < j → j < Y.bays → In (on_bay Y o (bay_of p r) j) p) → ⊥
  not-all-taken roomy all =
      let taken : (j : ℕ) → j < Y.bays → In (on_bay Y o (bay_of p r) j) p =
      λ j h. by_cases (eqb j 0)
      (λ e. rw (eqb-true j 0 e, on_none Y o (bay_of p r) own) (bay-in p r due.turn))
      (λ e. let ne = eqb-false j 0 e in all j (omega arith) h) in
      let few = no_more Y.bays (length p) (λ j h. at j) (λ j h. place_of-there p (on_bay Y o (bay_of p r) j) (taken j h))
      (λ i j hi hj e.
      let s : far Y o (bay_of p r) (bay_of p (at i)) ≡ far Y o (bay_of p r) (bay_of p (at j)) = ap (λ c. far Y o (bay_of p r) (bay_of p c)) e in
      omega (arith, at-far i hi (taken i hi), at-far j hj (taken j hj))) in
      omega arith

  -- ## A finished carrier f further on than r's goal: not every place up to it is taken

  module _ (f : Carrier) (hf : f < r) (goal-on : 0 < far Y o (bay_of p r) (bay_of goals r))
      (goal-before : far Y o (bay_of p r) (bay_of goals r) < far Y o (bay_of p r) (bay_of p f))
      (all : (j : ℕ) → 0 < j → j < far Y o (bay_of p r) (bay_of p f) → In (on_bay Y o (bay_of p r) j) p) where
    f-low : bay_of p f < Y.bays
    f-low = now-low Y sound goals r p due f (finished_there Y sound goals r p due f hf)

    -- how far on from r's goal the carrier's goal is
    abbrev far-then : Carrier → ℕ
    far-then c = far Y o (bay_of goals r) (bay_of goals c)

    -- the carrier j places on from r, which is not so far as f
    module _ (j : ℕ) (on : 0 < j) (before : j < far Y o (bay_of p r) (bay_of p f)) where
      far-now : far Y o (bay_of p r) (bay_of p (at j)) ≡ j
      far-now = at-far j (omega (arith, far-low Y o (bay_of p r) own (bay_of p f) f-low)) (all j on before)

      there : at j < length p
      there = place_of-there p (on_bay Y o (bay_of p r) j) (all j on before)

      three : Three p r (at j) f
      three = record {
        a-there = due.turn;
        b_there = there;
        c-there = finished_there Y sound goals r p due f hf;
        ab = λ z.
            let s : far Y o (bay_of p r) (bay_of p r) ≡ far Y o (bay_of p r) (bay_of p (at j)) = ap (λ c. far Y o (bay_of p r) (bay_of p c)) z in
            omega (arith, far-now, far-own Y o (bay_of p r) own);
        ac = λ z. omega arith;
        bc = λ z.
            let s : far Y o (bay_of p r) (bay_of p (at j)) ≡ far Y o (bay_of p r) (bay_of p f) = ap (λ c. far Y o (bay_of p r) (bay_of p c)) z in
            omega (arith, far-now);
      }

      -- at the goals too it stands behind r
      then-on : 0 < far-then (at j)
      then-on =
          far_some Y o (bay_of goals r) (then-low Y sound goals r p due r due.turn) (bay_of goals (at j)) (then-low Y sound goals r p due (at j) there)
          (λ z. three.ab ((goals-good Y sound goals r p due).apart r (at j) (omega (arith, same Y sound goals r p due, due.turn))
          (omega (arith, same Y sound goals r p due, there)) (sym z)))

      -- and before f
      then-before : far Y o (bay_of p r) (bay_of goals r) + far-then (at j) < far Y o (bay_of p r) (bay_of p f)
      then-before =
          let now : Before Y o p r (at j) f = omega (arith, far-now) in
          let kept : Before Y o goals r (at j) f = (order-kept Y sound o p goals due.good due.leads r (at j) f three).0 now in
          let then-f : far-then (at j) < far Y o (bay_of goals r) (bay_of p f) = rw (home-place Y sound goals r p due o f hf) at kept in
          let e = seen-between Y.bays (o.place (bay_of p r)) (o.place (bay_of goals r)) (o.place (bay_of p f)) (o.place_low (bay_of p r) own)
          (o.place_low (bay_of goals r) (then-low Y sound goals r p due r due.turn)) (o.place_low (bay_of p f) f-low) (omega arith) in
          omega arith

    -- no two of them at one place
    then-once : (i j : ℕ) (si : 0 < i) (sj : 0 < j) (bi : i < far Y o (bay_of p r) (bay_of p f)) (bj : j < far Y o (bay_of p r) (bay_of p f))
        → far-then (at i) ≡ far-then (at j) → i ≡ j
    then-once i j si sj bi bj e =
        let ti = there i si bi in
        let tj = there j sj bj in
        let one-goal = far-same Y o (bay_of goals r) (then-low Y sound goals r p due r due.turn) (bay_of goals (at i)) (bay_of goals (at j))
        (then-low Y sound goals r p due (at i) ti) (then-low Y sound goals r p due (at j) tj) e in
        let one = (goals-good Y sound goals r p due).apart (at i) (at j) (omega (arith, same Y sound goals r p due))
        (omega (arith, same Y sound goals r p due)) one-goal in
        sym (far-now i si bi) ∙ ap (λ c. far Y o (bay_of p r) (bay_of p c)) one ∙ far-now j sj bj

    pub not-all-between : ⊥
    not-all-between =
        let D = far Y o (bay_of p r) (bay_of p f) in
        let few = no_more (D - 1) (D - 2) (λ i h. far-then (at (suc i)) - 1)
        (λ i h. omega (arith, then-on (suc i) (omega arith) (omega arith), then-before (suc i) (omega arith) (omega arith)))
        (λ i j hi hj e.
        let on-i = then-on (suc i) (omega arith) (omega arith) in
        let on-j = then-on (suc j) (omega arith) (omega arith) in
        let z = then-once (suc i) (suc j) (omega arith) (omega arith) (omega arith) (omega arith) (omega arith) in
        omega arith) in
        omega arith
