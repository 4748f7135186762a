-- A carrier's turn on a carousel. Whatever path it is given avoids the finished carriers, so none of these is moved and nobody has
-- to go home; and where some legal list still leads to the goals there is a path, and it is gone to its end.
use mathlib.Core.Path.{◌≡◌, refl, sym, ◌∙◌, ap, subst}
use mathlib.Core.Bool.{true, not}
use mathlib.Core.Logic.{⊎_elim}
use mathlib.Core.List.{List, [], ◌∷◌, drop_last}
use mathlib.Core.Option.{some}
use Prim.Native.Nat.{ℕ, suc, ◌<◌, ◌≤◌, ◌+◌}
use native.Mathlib.Omega.{arith}
use lib.Dec.{eqb, ltb}
use lib.ListN.{length, take, drop, length-take}
use lib.Seq.{get_or-take}
use borrow.Author.Tests.{not-true, ltb-true, eqb-true, eqb-false, eq-eqb}
use Rattle.paper.specs.Basics.{◌and◌, In, NoDup}
use Rattle.paper.specs.Yard.{Bay, Carrier, Yard, Placement, bay_of, carrier_at, after, carousel}
use Rattle.paper.specs.Path.{Free, Route, Shortest}
use Rattle.paper.specs.Procedure.{Made, only, together, planned, avoided, path_of, go, home_at, way_home, along, carry}
use Rattle.paper.proofs.Tests.{by_cases, by-option, not-both, and_left, and_right}
use Rattle.paper.proofs.Playing.{Sound, Good, in-finished, out-finished}
use Rattle.paper.proofs.Shortest.{no-path-exactly}
use Rattle.paper.proofs.Swapping.{way-tail}
use Rattle.paper.proofs.Carrying.{go-goes, path-short, route-out, pair-in, place_of-in}
use Rattle.carousels.specs.Round.{Round}
use Rattle.carousels.specs.Leads.{Leads}
use Rattle.carousels.specs.Due.{Due}
use Rattle.carousels.proofs.Opening.{way-open}
use Rattle.carousels.proofs.Stepping.{home-held, next-runs, go-planned}

-- the carriers below r are home
abbrev pub Home : Placement → ℕ → Placement → Type 0
Home goals r p = (c : Carrier) → c < r → bay_of p c ≡ bay_of goals c

-- ## With everybody home there is nothing to do on the way home

module _ (Y : Yard) (goals : Placement) (k : ℕ) (hk : k ≤ length goals) (q : Placement) (home : Home goals k q) where
  bay-rests : (v : Bay) → home_at Y goals k v q ≡ planned (only [])
  unfolding home_at
  bay-rests v =
      let f = carrier_at (take k goals) v in
      by_cases (ltb f k and not (eqb (bay_of q f) v))
      (λ e.
      let t : f < k = ltb-true f k (and_left _ _ e) in
      let there : f < length (take k goals) = rw length-take (omega arith) in
      let goal : bay_of goals f ≡ v = sym (get_or-take k goals f 0 t) ∙ place_of-in (take k goals) v there in
      not-both (eq-eqb (bay_of q f) v (home f t ∙ goal)) (not-true (eqb (bay_of q f) v) (and_right _ _ e)))
      (λ e. rw e)

  way-rests : (l : List Bay) → way_home Y goals k l q ≡ planned (only [])
  unfolding way_home after
  way-rests [] = refl
  way-rests (v ∷ l) = next-runs (way_home Y goals k l) (home_at Y goals k v) q (only []) (only []) (way-rests l) (bay-rests v)

module _ (Y : Yard) (sound : Sound Y) (round : carousel Y ≡ true) (goals : Placement) (goals-good : Good Y goals) (r : Carrier) (p : Placement)
    (good : Good Y p) (len : length p ≡ length goals) (hr : r < length p) (home : Home goals r p) where
  avoids : avoided Y goals r p ≡ take r p
  avoids = rw round

  -- the shortest path past the finished carriers
  abbrev Past : List Bay → Type 0
  Past path = Shortest Y (take r p) (bay_of p r) (bay_of goals r) path

  path-past : (path : List Bay) → path_of Y goals r p ≡ some path → Past path
  path-past path e =
      let s = path-short Y sound goals goals-good.apart r p path good len hr (goals-good.inside r (omega arith)) home e in
      rw avoids at s

  from-free : Free Y (take r p) (bay_of p r)
  from-free = (
    good.inside r hr,
    out-finished r p (bay_of p r) (λ c h e. let z = good.apart c r (omega arith) hr e in omega arith),
  )

  goal-free : Free Y (take r p) (bay_of goals r)
  goal-free = (
    goals-good.inside r (omega arith),
    out-finished r p (bay_of goals r)
        (λ c h e. let z = goals-good.apart c r (omega arith) (omega arith) (sym (home c h) ∙ e) in omega arith),
  )

  module _ (path : List Bay) (short : Past path) where
    -- whoever is finished keeps its bay, and r comes to its own
    gone-home : (m : Made) → go Y goals r (drop 1 path) p ≡ planned m → Home goals (suc r) (after p m.moves)
    gone-home m h =
        let way = short.way in
        let ahead : drop 1 path ≡ way.rest = ap (drop 1) way.starts in
        let once : NoDup (bay_of p r ∷ drop 1 path) = rw ahead (rw way.starts at short.once) in
        let gone = go-goes Y sound goals r (drop 1 path) (bay_of p r) (bay_of goals r) p m good hr refl
        (way-tail Y (take r p) (bay_of p r) path (bay_of goals r) way) once h in
        λ c k. by_cases (eqb c r)
        (λ e. rw (eqb-true c r e) gone.arrives)
        (λ e.
        let ne = eqb-false c r e in
        let kc : c < r = omega arith in
        ⊎_elim
        (λ s. s ∙ home c kc)
        (λ s.
        let met : In (bay_of p c) way.rest = rw ahead at (pair-in (bay_of p r) (drop 1 path) _ (bay_of p c) s) in
        not-both (in-finished r p (omega arith) c kc) (route-out Y (take r p) (bay_of p r) way.rest (bay_of goals r) (bay_of p c) way.route met))
        (gone.others c kc))

    -- so the way home is empty
    gone-rests : (m : Made) → go Y goals r (drop 1 path) p ≡ planned m
        → way_home Y goals (suc r) (drop_last (drop 1 path)) (after p m.moves) ≡ planned (only [])
    gone-rests m h = way-rests Y goals (suc r) (omega arith) (after p m.moves) (gone-home m h) (drop_last (drop 1 path))

    along-planned : Round Y → length p + 2 ≤ Y.bays → Leads Y p goals → (m : Made) × (along Y goals r (drop 1 path) p ≡ planned m)
    unfolding along
    along-planned o roomy leads =
        let due : Due Y goals r p = record { good = good; turn = hr; home = home; leads = leads } in
        let way = short.way in
        let held : take r p ≡ take r goals = home-held r p goals len home in
        let once : NoDup (bay_of p r ∷ way.rest) = rw way.starts at short.once in
        let route : Route Y (take r goals) (bay_of p r) way.rest (bay_of goals r) =
        subst (λ h. Route Y h (bay_of p r) way.rest (bay_of goals r)) held way.route in
        let goes = go-planned Y sound o goals r way.rest (bay_of p r) p refl due roomy route once in
        let gone : go Y goals r (drop 1 path) p ≡ planned goes.0 = ap (λ l. go Y goals r (drop 1 l) p) way.starts ∙ goes.1 in (
          together goes.0 (only []),
          next-runs (go Y goals r (drop 1 path)) (way_home Y goals (suc r) (drop_last (drop 1 path))) p goes.0 (only []) gone
              (gone-rests goes.0 gone),
        )

  -- Where some legal list leads to the goals, a carrier's turn is planned.
  pub carry-planned : Round Y → length p + 2 ≤ Y.bays → Leads Y p goals → (m : Made) × (carry Y goals r p ≡ planned m)
  unfolding carry
  carry-planned o roomy leads =
      let w = way-open Y sound goals r p (record { good = good; turn = hr; home = home; leads = leads }) o in
      by-option (path_of Y goals r p)
      (λ e. absurd ((no-path-exactly Y (take r p) (bay_of p r) (bay_of goals r) from-free goal-free).0 (rw avoids at e) w.0 w.1))
      (λ path e.
      let t = along-planned path (path-past path e) o roomy leads in
      (t.0, rw e t.1))
