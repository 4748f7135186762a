-- On a carousel r goes its path to the end: at each step the next bay can be vacated, and after it the finished carriers stand as
-- before and some legal list still leads to the goals.
use mathlib.Core.Path.{◌≡◌, refl, sym, ◌∙◌}
use mathlib.Core.Bool.{true}
use mathlib.Core.Logic.{⊎_elim}
use mathlib.Core.List.{List, [], ◌∷◌}
use mathlib.Core.Option.{Option, some}
use Prim.Native.Nat.{◌<◌, ◌≤◌, ◌+◌}
use native.Mathlib.Omega.{arith}
use lib.ListN.{length, take, length-take}
use lib.Seq.{get_or-take, ext_get_or}
use borrow.Author.Tests.{ne_eqb}
use Rattle.paper.specs.Basics.{Out, NoDup}
use Rattle.paper.specs.Yard.{Bay, Carrier, Yard, Placement, Crossing, bay_of, after, joined}
use Rattle.paper.specs.Path.{Free, Route}
use Rattle.paper.specs.Procedure.{Made, only, together, vacate, cross, step, holding, planned, onward, or_stuck, Stage, ◌next◌, go}
use Rattle.paper.proofs.Tests.{by-option, not-both, never-some, none_both}
use Rattle.paper.proofs.Members.{Out-head, Out-tail, out-cons}
use Rattle.paper.proofs.Playing.{Sound, in-finished, after-length}
use Rattle.paper.proofs.Actions.{then_runs}
use Rattle.paper.proofs.Carrying.{plan-good, Stepped, step-steps}
use Rattle.carousels.specs.Round.{Round}
use Rattle.carousels.specs.Due.{Due}
use Rattle.carousels.proofs.Leading.{leads-by, leads-on, leads-back, leads-length}
use Rattle.carousels.proofs.Room.{Some, room-ahead}

-- a route that does not come to u goes on where u is held
pub route-avoiding : (Y : Yard) (held : List Bay) (u x : Bay) (l : List Bay) (v : Bay) → Route Y held x l v → Out u l → Route Y (u ∷ held) x l v
route-avoiding Y held u x [] v route out = route
route-avoiding Y held u x (y ∷ l) v route out = (
  route.0,
  (route.1.0, out-cons y u held (λ e. Out-head u y l out (sym e)) route.1.1),
  route-avoiding Y held u y l v route.2 (Out-tail u y l out),
)

-- finished carriers at home hold the same bays as at the goals
pub home-held : (r : Carrier) (p goals : Placement) → length p ≡ length goals → ((c : Carrier) → c < r → bay_of p c ≡ bay_of goals c) → take r p ≡ take r goals
home-held r p goals len home =
    let n : length (take r p) ≡ length (take r goals) = simp (length-take, len) in
    ext_get_or 0 (take r p) (take r goals) n
    (λ c h. let k : c < r = let z = rw length-take at h in omega arith in get_or-take r p c 0 k ∙ home c k ∙ sym (get_or-take r goals c 0 k))

pub next-runs : (f g : Stage) (p : Placement) (a b : Made) → f p ≡ planned a → g (after p a.moves) ≡ planned b → (f next g) p ≡ planned (together a b)
unfolding ◌next◌ onward
next-runs f g p a b h k = rw (h, k)

or-planned : (r : Carrier) (a : Option Made) (m : Made) → a ≡ some m → or_stuck r a ≡ planned m
unfolding or_stuck
or-planned r a m h = rw h

module _ (Y : Yard) (sound : Sound Y) (o : Round Y) (goals : Placement) (r : Carrier) where
  module _ (p : Placement) (due : Due Y goals r p) (roomy : length p + 2 ≤ Y.bays) (w : Bay) (rest : List Bay)
      (rail : joined Y (bay_of p r) w ≡ true) (free : Free Y (holding r r p) w) (route : Route Y (holding r r p) w rest (bay_of goals r)) where
    step-goes : Some (step Y r r w p)
    unfolding step cross
    step-goes =
        let room = room-ahead Y sound goals r p due o roomy w rest rail free route in
        let runs = then_runs (vacate Y (holding r r p) w) (cross r w) p room.0 _ room.1 refl in
        by-option (step Y r r w p)
        (λ h. never-some _ (sym (none_both _ _ h).0 ∙ runs))
        (λ a h. (a, h))

    -- the finished carriers have not moved
    step-due : (xs : List Crossing) → Stepped Y sound r r w p xs → Due Y goals r (after p xs)
    step-due xs s = record {
      good = plan-good Y sound p xs due.good s.legal;
      turn = rw after-length due.turn;
      home = λ c h. ⊎_elim
          (λ e. e ∙ due.home c h)
          (λ e. not-both (rw e.0 at (in-finished r p (omega (arith, due.turn)) c h)) (Out-tail w (bay_of p r) (take r p) free.1))
          (s.others c h (ne_eqb c r (λ z. omega arith)));
      leads = leads-on Y (leads-back Y due.good.apart (leads-by Y p xs s.legal)) due.leads;
    }

  -- along a path that avoids the finished carriers and has no bay twice
  pub go-planned : (ahead : List Bay) (u : Bay) (p : Placement) → bay_of p r ≡ u → Due Y goals r p → length p + 2 ≤ Y.bays
      → Route Y (take r goals) u ahead (bay_of goals r) → NoDup (u ∷ ahead) → (m : Made) × (go Y goals r ahead p ≡ planned m)
  unfolding go
  go-planned [] u p at-u due roomy route once = (only [], refl)
  go-planned (w ∷ ws) u p at-u due roomy route once =
      let held : take r p ≡ take r goals = home-held r p goals (leads-length Y due.leads) due.home in
      let rail : joined Y (bay_of p r) w ≡ true = rw at-u route.0 in
      let free : Free Y (holding r r p) w =
      rw (at-u, held) (route.1.0, out-cons w u (take r goals) (λ e. Out-head u w ws once.0 (sym e)) route.1.1) in
      let on : Route Y (holding r r p) w ws (bay_of goals r) =
      rw (at-u, held) (route-avoiding Y (take r goals) u w ws (bay_of goals r) route.2 (Out-tail u w ws once.0)) in
      let s = step-goes p due roomy w ws rail free on in
      let m = s.0 in
      let xs = m.moves in
      let stepped = step-steps Y sound r r w p due.good due.turn (omega (arith, due.turn)) rail m s.1 in
      let ih = go-planned ws w (after p xs) stepped.arrives (step-due p due roomy w ws rail free on xs stepped) (rw after-length roomy) route.2 once.1 in
      (together m ih.0, next-runs (λ q. or_stuck r (step Y r r w q)) (go Y goals r ws) p m ih.0 (or-planned r (step Y r r w p) m s.1) ih.1)
