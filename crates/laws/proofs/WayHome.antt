-- "It steps from v(i−1) to vi": whoever the way home finds away from its goal stands one bay back on r's path. Only r displaced it, by a swap that put it where r had
-- stood before; and what the way home has done since moved no other finished carrier.
use mathlib.Core.Path.{◌≡◌, refl, sym, ◌∙◌, ap, subst}
use mathlib.Core.Bool.{true, false, not}
use mathlib.Core.Logic.{◌⊎◌, ⊎_elim}
use mathlib.Core.List.{List, [], ◌∷◌, ◌++◌, append_assoc, drop_last}
use mathlib.Core.Option.{none, some}
use Prim.Native.Nat.{ℕ, zero, suc, ◌<◌, ◌≤◌}
use native.Mathlib.Omega.{arith}
use lib.Dec.{eqb, ltb}
use lib.ListN.{length, get_or, take, drop, length-take, take-append-drop}
use lib.Seq.{get_or-take}
use borrow.Author.Tests.{lt-ltb, ne_eqb}
use Rattle.paper.specs.Basics.{◌and◌, In, NoDup}
use Rattle.paper.specs.Yard.{Bay, Carrier, Yard, Placement, crossing, bay_of, carrier_at, after, joined}
use Rattle.paper.specs.Order.{Order}
use Rattle.paper.specs.Path.{Shortest}
use Rattle.paper.specs.Procedure.{Made, only, together, cross, vacate, step, planned, or_stuck, holding, avoided, path_of, go, home_at, way_home, along, TurnOf, ComesTo}
use Rattle.paper.specs.Docket.{yard_of}
use Rattle.paper.specs.Answers.{first_six}
use Rattle.paper.proofs.Tests.{not-both, and_both}
use Rattle.paper.proofs.Members.{In-head}
use Rattle.paper.proofs.Playing.{after-length, bay-in, place_of-bay, place_of-there, Sound, Good}
use Rattle.paper.proofs.Vacating.{vacate-vacates}
use Rattle.paper.proofs.Actions.{then_runs}
use Rattle.paper.proofs.Swapping.{Chain, way-tail}
use Rattle.paper.proofs.Carrying.{plan-good, next-split, Pair, pair-in, pair-joined, chain-last, Home, Gone, go-goes, step-steps, back-or-home, path-short, all-carried}
use Rattle.paper.proofs.Admitted.{clean_of, sound-of, good_of}

-- in a list with no bay twice, the one before the bay at a place is the bay one place before
pair-at : (u : Bay) (l : List Bay) (a b : Bay) → NoDup l → Pair u l a b → (i : ℕ) → i < length l → b ≡ get_or l i 0 → a ≡ get_or (u ∷ l) i 0
pair-at u [] a b n h i k e = absurd h
pair-at u (x ∷ l) a b n h zero k e =
    ⊎_elim (λ j. j.0) (λ j. not-both (rw e at (pair-in x l a b j)) n.0) h
pair-at u (x ∷ l) a b n h (suc i) k e =
    ⊎_elim
    (λ j. not-both (rw (sym e ∙ j.1) at (bay-in l i (omega arith))) n.0)
    (λ j. pair-at x l a b n.1 j i (omega arith) e)
    h

home-suffix : (Y : Yard) (goals : Placement) (finished : ℕ) (i : ℕ) (l : List Bay) (p : Placement) (m : Made) → way_home Y goals finished l p ≡ planned m
    → (b : Made) × (way_home Y goals finished (drop i l) p ≡ planned b)
unfolding way_home
home-suffix Y goals finished zero l p m h = (m, h)
home-suffix Y goals finished (suc i) [] p m h = (m, h)
home-suffix Y goals finished (suc i) (v ∷ l) p m h =
    next-split (way_home Y goals finished l) (home_at Y goals finished v) p m h (λ a b d e z. home-suffix Y goals finished i l p a d)

-- A turn that is planned comes to each vi on its way home.
pub comes-to-each : (Y : Yard) (goals : Placement) (r : Carrier) (path : List Bay) (p : Placement) (m : Made) → along Y goals r (drop 1 path) p ≡ planned m
    → (i : ℕ) → (q : Placement) × ComesTo Y goals r path i p q
unfolding along
comes-to-each Y goals r path p m h i =
    next-split (go Y goals r (drop 1 path)) (way_home Y goals (suc r) (drop_last (drop 1 path))) p m h
    (λ gone home d e z.
    let s = home-suffix Y goals (suc r) i (drop_last (drop 1 path)) (after p gone.moves) home e in
    (after (after p gone.moves) s.0.moves, record { gone = gone; goes = d; home = s.0; homes = s.1; stand = refl }))

module _ (o : Order) (passes : first_six o 0 ≡ none) (r : Carrier) (hr : r < length o.goals) where
  abbrev Y : Yard
  Y = yard_of o

  sound : Sound Y
  sound = sound-of o (clean_of o 0 passes).rails

  good-goals : Good Y o.goals
  good-goals = good_of o o.goals (clean_of o 0 passes).goals

  -- where r's turn begins, the carriers below it are home
  record Begun (p : Placement) : Type 0 where
    good : Good Y p
    len : length p ≡ length o.goals
    at_home : Home Y sound o.goals good-goals.apart r p

  begun : (p : Placement) → TurnOf Y o.goals o.starts r p → Begun p
  begun p t =
      let c = clean_of o 0 passes in
      let ms = t.before.moves in
      let g = good_of o o.starts c.starts in
      let h = all-carried Y sound o.goals good-goals.apart good-goals.inside r 0 o.starts t.before g c.sizes.same_length (omega arith) (λ d k. absurd (omega arith))
      t.planned_before in
      rw (← t.stand) (record {
        good = plan-good Y sound o.starts ms g h.0;
        len = after-length o.starts ms ∙ c.sizes.same_length;
        at_home = λ d k. h.1 d (omega arith);
      })

  module _ (p : Placement) (turn : TurnOf Y o.goals o.starts r p) (path : List Bay) (its : path_of Y o.goals r p ≡ some path)
      (i : ℕ) (inner : suc (suc i) < length path) (q : Placement) (comes : ComesTo Y o.goals r path (suc i) p q) where
    -- the bays ahead of r, which no bay of its path stands among twice
    abbrev ahead : List Bay
    ahead = drop 1 path

    abbrev u : Bay
    u = bay_of p r

    record Going : Type 0 where
      starts-at : path ≡ u ∷ ahead
      chain : Chain Y u ahead (bay_of o.goals r)
      once : NoDup (u ∷ ahead)
      gone-there : Gone Y sound o.goals r u ahead (bay_of o.goals r) p comes.gone.moves

    going : Going
    going =
        let b = begun p turn in
        let held = avoided Y o.goals r p in
        let long : r < length p = omega (arith, b.len) in
        let short : Shortest Y held u (bay_of o.goals r) path =
        path-short Y sound o.goals good-goals.apart r p path b.good b.len long (good-goals.inside r hr) b.at_home its in
        let way = short.way in
        let cons : path ≡ u ∷ ahead = rw way.starts in
        let chain = way-tail Y held u path (bay_of o.goals r) way in
        let n : NoDup (u ∷ ahead) = rw cons at short.once in
        record {
          starts-at = cons;
          chain = chain;
          once = n;
          gone-there = go-goes Y sound o.goals r ahead u (bay_of o.goals r) p comes.gone b.good long refl chain n comes.goes;
        }

    -- the path, cut behind vi
    cut : ahead ≡ take (suc i) (drop_last ahead) ++ (drop (suc i) (drop_last ahead) ++ (bay_of o.goals r ∷ []))
    cut =
        let a = going in
        let len : length path ≡ suc (length ahead) = ap length a.starts-at in
        ⊎_elim
        (λ k. let z : length ahead ≡ 0 = ap length k.0 in absurd (omega arith))
        (λ k. k ∙ ap (λ l. l ++ (bay_of o.goals r ∷ [])) (sym (take-append-drop (suc i) (drop_last ahead)))
        ∙ append_assoc (take (suc i) (drop_last ahead)) (drop (suc i) (drop_last ahead)) (bay_of o.goals r ∷ []))
        (chain-last Y u ahead (bay_of o.goals r) a.chain)

    -- there each finished carrier is at home or one bay back
    record Coming (there : Placement) : Type 0 where
      good : Good Y there
      len : length there ≡ length o.goals
      back : (c : Carrier) → c < suc r → (bay_of there c ≡ bay_of o.goals c) ⊎ Pair u ahead (bay_of there c) (bay_of o.goals c)

    come-to : Coming (after (after p comes.gone.moves) comes.home.moves)
    come-to =
        let b = begun p turn in
        let a = going in
        let xs = comes.gone.moves in
        let ys = comes.home.moves in
        let long : r < length p = omega (arith, b.len) in
        let t = back-or-home Y sound o.goals good-goals.apart r p b.good b.len long b.at_home u xs
        (take (suc i) (drop_last ahead)) (drop (suc i) (drop_last ahead)) comes.home ahead cut a.chain a.once a.gone-there comes.homes in
        record {
          good = plan-good Y sound (after p xs) ys (plan-good Y sound p xs b.good a.gone-there.legal) t.0;
          len = after-length (after p xs) ys ∙ after-length p xs ∙ b.len;
          back = t.1;
        }

    coming : Coming q
    coming = subst (λ there. Coming there) comes.stand come-to

    -- "if a finished carrier has goal vi and is not there": here vi is the bay at the place i + 1, and v(i−1) the one at the place i
    module _ (c : Carrier) (finished : c ≤ r) (has-goal : bay_of o.goals c ≡ get_or path (suc i) 0) (not_there : bay_of q c ≡ get_or path (suc i) 0 → ⊥) where
      pair : Pair u ahead (bay_of q c) (get_or path (suc i) 0)
      pair = ⊎_elim (λ k. absurd (not_there (k ∙ has-goal))) (λ k. rw has-goal at k) (coming.back c (omega arith))

      -- It stands at v(i−1).
      pub one-bay-back : bay_of q c ≡ get_or path i 0
      one-bay-back =
          let a = going in
          let len : length path ≡ suc (length ahead) = ap length a.starts-at in
          pair-at u ahead (bay_of q c) (get_or path (suc i) 0) a.once.1 pair i (omega arith) (ap (λ l. get_or l (suc i) 0) a.starts-at)
          ∙ ap (λ l. get_or l i 0) (sym a.starts-at)

      -- A rail joins v(i−1) and vi.
      pub rail-home : joined Y (get_or path i 0) (get_or path (suc i) 0) ≡ true
      rail-home = rw one-bay-back at (pair-joined Y u ahead (bay_of o.goals r) (bay_of q c) (get_or path (suc i) 0) going.chain pair)

      -- It is the one that steps, "by the same rule; a failure is 7 for that carrier".
      pub steps-home : home_at Y o.goals (suc r) (get_or path (suc i) 0) q ≡ or_stuck c (step Y (suc r) c (get_or path (suc i) 0) q)
      unfolding home_at
      steps-home =
          let v = get_or path (suc i) 0 in
          let f = carrier_at (take (suc r) o.goals) v in
          let k : c < suc r = omega arith in
          let there : In v (take (suc r) o.goals) = rw (get_or-take (suc r) o.goals c 0 k ∙ has-goal) at (bay-in (take (suc r) o.goals) c (rw length-take (omega arith))) in
          let low : f < suc r = let l = rw length-take at (place_of-there (take (suc r) o.goals) v there) in omega arith in
          let its-goal : bay_of o.goals f ≡ v = sym (get_or-take (suc r) o.goals f 0 low) ∙ place_of-bay (take (suc r) o.goals) v there in
          let same : f ≡ c = good-goals.apart f c (omega arith) (omega arith) (its-goal ∙ sym has-goal) in
          let away : eqb (bay_of q f) v ≡ false = ne_eqb (bay_of q f) v (λ e. not_there (rw same at e)) in
          let away-c : eqb (bay_of q c) v ≡ false = rw same at away in
          let due : ltb c (suc r) and not (eqb (bay_of q c) v) ≡ true = and_both _ _ (lt-ltb c (suc r) k) (ap not away-c) in
          rw (same, due)

      -- Where vi can be vacated, its crossing is from v(i−1) to vi.
      pub crosses-home : (m : Made) → vacate Y (holding (suc r) c q) (get_or path (suc i) 0) q ≡ some m
          → step Y (suc r) c (get_or path (suc i) 0) q ≡ some (together m (only (crossing c (get_or path i 0) (get_or path (suc i) 0) ∷ [])))
      unfolding step cross
      crosses-home m h =
          let v = get_or path (suc i) 0 in
          let at = coming in
          let held = holding (suc r) c q in
          let vac = vacate-vacates Y held v q m at.good.apart (sound.inside (get_or path i 0) v rail-home) h in
          let kept : bay_of (after q m.moves) c ≡ get_or path i 0 = vac.keeps c (omega (arith, at.len)) (In-head (bay_of q c) (take (suc r) q)) ∙ one-bay-back in
          rw (then_runs (vacate Y held v) (cross c v) q m (only (crossing c (get_or path i 0) v ∷ [])) h (rw kept))

      -- Whether it crosses or is swapped, it is then at vi.
      pub comes_home : (m : Made) → step Y (suc r) c (get_or path (suc i) 0) q ≡ some m → bay_of (after q m.moves) c ≡ get_or path (suc i) 0
      comes_home m h =
          let at = coming in
          (step-steps Y sound (suc r) c (get_or path (suc i) 0) q at.good (omega (arith, at.len)) (omega (arith, at.len)) (rw one-bay-back rail-home) m h).arrives
