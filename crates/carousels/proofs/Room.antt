-- The next bay of r's path can always be vacated on a carousel: going on from r through that bay one comes to an empty bay before
-- the next finished carrier, since not all places between are taken.
use mathlib.Core.Path.{◌≡◌, sym, ◌∙◌, ap}
use mathlib.Core.Bool.{true}
use mathlib.Core.Logic.{⊎_elim}
use mathlib.Core.List.{List, [], ◌∷◌}
use mathlib.Core.Option.{Option, some}
use Prim.Native.Nat.{ℕ, ◌<◌, ◌≤◌, ◌+◌, ◌-◌}
use native.Mathlib.Omega.{arith}
use lib.ListN.{length, take}
use borrow.Author.Tests.{not-true, not-false}
use Rattle.paper.specs.Basics.{elem, In, Out}
use Rattle.paper.specs.Yard.{Bay, Carrier, Yard, Placement, bay_of, is_empty, joined}
use Rattle.paper.specs.Path.{Free, Route, Way}
use Rattle.paper.specs.Procedure.{vacate, nearest_empty, holding}
use Rattle.paper.proofs.Tests.{by_cases, by-option, not-both, never-some}
use Rattle.paper.proofs.Members.{Out-head, Out-tail, out-cons}
use Rattle.paper.proofs.Rings.{Walk}
use Rattle.paper.proofs.Nearest.{walk-way, none-near-exactly}
use Rattle.paper.proofs.Playing.{Sound, in-finished, whose}
use Rattle.carousels.specs.Round.{Next, Round}
use Rattle.carousels.specs.Due.{Due}
use Rattle.carousels.proofs.Ordering.{low, next_place}
use Rattle.carousels.proofs.Mirroring.{mirror, mirror-next}
use Rattle.carousels.proofs.Seeing.{first-met, far, on_bay, far-own, far_some, far-same, far-next, far-on, on-far, walk-on}
use Rattle.carousels.proofs.Opening.{now-low, own-low, finished_there}
use Rattle.carousels.proofs.Counting.{not-all-taken, not-all-between}

-- there is an answer
abbrev pub Some : {A : Type 0} → Option A → Type 0
Some {A} o = (a : A) × (o ≡ some a)

-- a vacate succeeds where some empty bay is reached
pub vacate-finds : (Y : Yard) (held : List Bay) (x : Bay) (p : Placement) → Free Y held x → (b : Bay) (l : List Bay) → Out b p → Way Y held x l b
    → Some (vacate Y held x p)
unfolding vacate
vacate-finds Y held x p free b l empty way =
    by-option (vacate Y held x p)
    (λ h. by_cases (is_empty p x)
    (λ e. never-some _ (sym (rw e at h)))
    (λ e. by-option (nearest_empty Y held p x)
    (λ k. not-both ((none-near-exactly Y held p x free).0 k b l way) empty)
    (λ a k. never-some _ (sym (rw (e, free.1, k) at h)))))
    (λ a h. (a, h))

module _ (Y : Yard) (sound : Sound Y) (goals : Placement) (r : Carrier) (p : Placement) (due : Due Y goals r p) where
  own : bay_of p r < Y.bays
  own = own-low Y sound goals r p due

  -- a bay that is not held is not r's
  free-not-own : (b : Bay) → Free Y (holding r r p) b → b ≡ bay_of p r → ⊥
  free-not-own b free e = Out-head b (bay_of p r) (take r p) free.1 e

  module _ (o : Round Y) where
    -- how far on from r a bay is
    abbrev far-to : Bay → ℕ
    far-to b = far Y o (bay_of p r) b

    -- ## A route cut at r and at a finished carrier f stays between the two

    module _ (f : Carrier) (hf : f < r) where
      free-not-f : (b : Bay) → Free Y (holding r r p) b → far-to b ≡ far-to (bay_of p f) → ⊥
      free-not-f b free e =
          let is_f : bay_of p f ≡ b =
          sym (far-same Y o (bay_of p r) own b (bay_of p f) (low Y b free.0) (now-low Y sound goals r p due f (finished_there Y sound goals r p due f hf)) e) in
          not-both (rw is_f at (in-finished r p (omega (arith, due.turn)) f hf)) (Out-tail b (bay_of p r) (take r p) free.1)

      -- one step of it
      step_stays : (x y : Bay) → Free Y (holding r r p) x → Free Y (holding r r p) y → joined Y x y ≡ true
          → far-to x < far-to (bay_of p f) → far-to y < far-to (bay_of p f)
      step_stays x y free-x free-y rail h =
          let ne = free-not-f y free-y in
          ⊎_elim
          (λ k. let e = far-next Y o (bay_of p r) own x y (low Y x free-x.0) (low Y y free-y.0) k (free-not-own y free-y) in omega arith)
          (λ k. let e = far-next Y o (bay_of p r) own y x (low Y y free-y.0) (low Y x free-x.0) k (free-not-own x free-x) in omega arith)
          (next_place Y sound o x y rail)

      route-stays : (x : Bay) (l : List Bay) (v : Bay) → Free Y (holding r r p) x → far-to x < far-to (bay_of p f) → Route Y (holding r r p) x l v
          → (0 < far-to v) × (far-to v < far-to (bay_of p f))
      route-stays x [] v free h route = rw (← route) (far_some Y o (bay_of p r) own x (low Y x free.0) (free-not-own x free), h)
      route-stays x (y ∷ l) v free h route = route-stays y l v route.1 (step_stays x y free route.1 route.0 h) route.2

    -- ## From r on there is an empty bay, with none that is held on the way there

    record Gap : Type 0 where
      at : ℕ
      on : 0 < at
      fits : at < Y.bays
      free : (j : ℕ) → 0 < j → j ≤ at → Out (on_bay Y o (bay_of p r) j) (holding r r p)
      empty : Out (on_bay Y o (bay_of p r) at) p

    -- where not all places before D are taken, and none of them is a finished carrier's
    find-gap : (D : ℕ) → D ≤ Y.bays → ((j : ℕ) → 0 < j → j < D → Out (on_bay Y o (bay_of p r) j) (take r p))
        → (((j : ℕ) → 0 < j → j < D → In (on_bay Y o (bay_of p r) j) p) → ⊥) → Gap
    find-gap D hD clear not_all =
        let u = bay_of p r in
        let away : (j : ℕ) → 0 < j → j < Y.bays → on_bay Y o u j ≡ u → ⊥ =
        λ j a h e. let s : far-to (on_bay Y o u j) ≡ far-to u = ap far-to e in omega (arith, far-on Y o u own j h, far-own Y o u own) in
        ⊎_elim
        (λ f. absurd (not_all (λ j a b. not-false (elem (on_bay Y o u j) p) (f j a (omega arith)))))
        (λ m. record {
          at = m.at;
          on = m.some;
          fits = omega (arith, m.within, m.some);
          free = λ j a b. out-cons (on_bay Y o u j) u (take r p) (away j a (omega (arith, m.within))) (clear j a (omega (arith, m.within)));
          empty = not-true (elem (on_bay Y o u m.at) p) m.hit;
        })
        (first-met (λ j. is_empty p (on_bay Y o u j)) (D - 1))

    module _ (roomy : length p + 2 ≤ Y.bays) (w : Bay) (free-w : Free Y (holding r r p) w) (beside : Next Y.bays (o.place (bay_of p r)) (o.place w))
        (rest : List Bay) (route : Route Y (holding r r p) w rest (bay_of goals r)) where
      far-w : far-to w ≡ 1
      far-w = omega (arith, far-next Y o (bay_of p r) own (bay_of p r) w own (low Y w free-w.0) beside (free-not-own w free-w), far-own Y o (bay_of p r) own)

      -- up to the first finished carrier that is met, or all round
      gap : Gap
      gap =
          let n = Y.bays in
          let u = bay_of p r in
          ⊎_elim
          (λ clear. find-gap n (omega arith) (λ j a b. clear j a (omega arith)) (not-all-taken Y sound goals r p due o roomy))
          (λ m.
          let hm : m.at < n = omega (arith, m.within, m.some) in
          let (f, hf, is_f) = whose r p (on_bay Y o u m.at) m.hit in
          let far-f : far-to (bay_of p f) ≡ m.at = ap far-to is_f ∙ far-on Y o u own m.at hm in
          let w-not-f = free-not-f f hf w free-w in
          let goal = route-stays f hf w rest (bay_of goals r) free-w (omega (arith, m.some, far-w)) route in
          find-gap m.at (omega arith) m.before
          (λ all. not-all-between Y sound goals r p due o f hf goal.0 goal.1 (λ j a b. all j a (omega arith))))
          (first-met (λ j. elem (on_bay Y o u j) (take r p)) (n - 1))

      room-up : Some (vacate Y (holding r r p) w p)
      room-up =
          let u = bay_of p r in
          let g = gap in
          let k = walk-on Y o u own (holding r r p) 1 g.at (omega (arith, g.on)) g.fits (λ j a b. g.free j (omega arith) b) in
          let begins : on_bay Y o u 1 ≡ w = ap (on_bay Y o u) (sym far-w) ∙ on-far Y o u own w (low Y w free-w.0) in
          let walk : Walk Y (holding r r p) w k.0 (on_bay Y o u g.at) = rw begins at k.1 in
          let way = walk-way Y (holding r r p) free-w walk in
          vacate-finds Y (holding r r p) w p free-w (on_bay Y o u g.at) way.0 g.empty way.2

  -- The next bay of a route to r's goal that avoids r's bay and the finished carriers' can be vacated.
  pub room-ahead : Round Y → length p + 2 ≤ Y.bays → (w : Bay) (rest : List Bay) → joined Y (bay_of p r) w ≡ true → Free Y (holding r r p) w
      → Route Y (holding r r p) w rest (bay_of goals r) → Some (vacate Y (holding r r p) w p)
  room-ahead o roomy w rest rail free route =
      ⊎_elim
      (λ k. room-up o roomy w free k rest route)
      (λ k. room-up (mirror Y o) roomy w free (mirror-next Y o (bay_of p r) w own (low Y w free.0) k) rest route)
      (next_place Y sound o (bay_of p r) w rail)
