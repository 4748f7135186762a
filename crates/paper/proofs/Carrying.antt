-- Every finished carrier is home again after each carrier's turn: one that r meets on its path is swapped one bay back, so its
-- goal is the next bay of the path, and the way home brings it there before anything else can displace it.
use mathlib.Core.Path.{◌≡◌, refl, sym, ◌∙◌, ap}
use mathlib.Core.Bool.{true, false, not}
use mathlib.Core.Logic.{◌⊎◌, inl, inr, ⊎_elim}
use mathlib.Core.List.{List, [], ◌∷◌, ◌++◌, append_assoc, append-nil, drop_last, cons≢nil}
use mathlib.Core.Option.{Option, none, some}
use Prim.Native.Nat.{ℕ, zero, suc, ◌<◌, ◌≤◌, ◌+◌}
use native.Mathlib.Omega.{arith}
use lib.Dec.{eqb, ltb}
use lib.ListN.{length, take, drop, length-set, length-take}
use lib.Seq.{get_or-take, ext_get_or}
use borrow.Author.Tests.{not-true, ltb-true, lt-ltb, eqb-true, eqb-false, ne_eqb}
use Rattle.paper.specs.Basics.{◌and◌, elem, place_of, up_to, In, Out, NoDup}
use Rattle.paper.specs.Yard.{Bay, Carrier, Yard, Placement, Crossing, crossing, bay_of, carrier_at, move, after, joined, carousel, legal_plan}
use Rattle.paper.specs.Path.{Route, Way, Shortest, nearest_first, shortest_path, path_between}
use Rattle.paper.specs.Procedure.{Made, only, together, ◌then◌, cross, trade, vacate, swap, step, Outcome, planned, stuck, onward, or_stuck, Stage, ◌next◌, avoided, path_of, go, home_at, way_home, along, carry, carry_from, procedure, holding}
use Rattle.paper.proofs.Tests.{by_cases, by-option, not-both, never-some, some-when, and_left, and_right, and_both}
use Rattle.paper.proofs.Members.{In-head, In-tail, In-cases, In-nil, In-append-right, out-cons, nothing-in-nil, Out-head, Out-tail}
use Rattle.paper.proofs.Shortest.{shortest-path}
use Rattle.paper.proofs.Playing.{Apart, Legal, legal-facts, legal-of, after-append, after-length, plan-head, plan-tail, plan-cons, plan-append, place_of-bay, place_of-there, in-finished, out-finished, move-self, move-other, move-apart, Sound, Good}
use Rattle.paper.proofs.Vacating.{vacate-vacates, vacate-empty}
use Rattle.paper.proofs.Trading.{traded-bay, trade-first, trade-second, trade-other}
use Rattle.paper.proofs.Actions.{same-moves, cross-some, then_runs, then-split}
use Rattle.paper.proofs.Swapping.{Chain, way-tail, swap-trades}

pub plan-good : (Y : Yard) → Sound Y → (p : Placement) (xs : List Crossing) → Good Y p → legal_plan Y p xs ≡ true → Good Y (after p xs)
unfolding after
plan-good Y sound p [] g h = g
plan-good Y sound p (x ∷ xs) g h =
    let l = legal-facts Y p x (plan-head Y p x xs h) in
    plan-good Y sound (move p x) xs
    (record {
      apart = move-apart Y p x l g.apart;
      inside = λ c k. by_cases (eqb c x.carrier)
          (λ e. rw (eqb-true c x.carrier e, move-self Y p x l) (sound.inside x.from x.to l.rail))
          (λ e. rw (move-other Y p x l c e) (g.inside c (rw length-set at k)));
    })
    (plan-tail Y p x xs h)

module _ (Y : Yard) (sound : Sound Y) where
  -- What a step of r from u to w does: legal; r is at w; a finished carrier keeps its bay, or was at w and is now at u.
  pub record Stepped (finished : ℕ) (r : Carrier) (w : Bay) (p : Placement) (xs : List Crossing) : Type 0 where
    pub legal : legal_plan Y p xs ≡ true
    pub arrives : bay_of (after p xs) r ≡ w
    pub others : (c : Carrier) → c < finished → eqb c r ≡ false
        → (bay_of (after p xs) c ≡ bay_of p c) ⊎ ((bay_of p c ≡ w) × (bay_of (after p xs) c ≡ bay_of p r))

  module _ (finished : ℕ) (r : Carrier) (w : Bay) (p : Placement) (good : Good Y p) (hr : r < length p) (hf : finished ≤ length p)
      (rail : joined Y (bay_of p r) w ≡ true) where
    by-vacating : (m : Made) → (vacate Y (holding finished r p) w then cross r w) p ≡ some m → Stepped finished r w p m.moves
    unfolding after legal_plan
    by-vacating m h =
        then-split (vacate Y (holding finished r p) w) (cross r w) p m h
        (λ vacated crossed e h1 q.
        let held = bay_of p r ∷ take finished p in
        let ms = vacated.moves in
        let vac = vacate-vacates Y held w p vacated good.apart (sound.inside (bay_of p r) w rail) e in
        let kr : bay_of (after p ms) r ≡ bay_of p r = vac.keeps r hr (In-head (bay_of p r) (take finished p)) in
        let x = crossing r (bay_of (after p ms) r) w in
        let l : Legal Y (after p ms) x = record { there = rw after-length hr; stands = refl; rail = rw kr rail; free = vac.empties } in
        let all : m.moves ≡ ms ++ (x ∷ []) = let y = same-moves q in let z = same-moves (cross-some r w (after p ms) crossed h1) in cc in
        rw all (record {
          legal = plan-append Y p ms (x ∷ []) vac.legal (plan-cons Y (after p ms) x [] (legal-of Y (after p ms) x l) refl);
          arrives = rw after-append (move-self Y (after p ms) x l);
          others = λ c hc ne. inl (rw after-append (move-other Y (after p ms) x l c ne ∙ vac.keeps c (omega arith) (In-tail (bay_of p c) (bay_of p r) (take finished p) (in-finished finished p hf c hc))));
        }))

    by-swapping : (m : Made) → In w p → swap Y r (carrier_at p w) p ≡ some m → Stepped finished r w p m.moves
    by-swapping m i h =
        let s = carrier_at p w in
        let at-s : bay_of p s ≡ w = place_of-bay p w i in
        let hs : s < length p = place_of-there p w i in
        let ne : eqb r s ≡ false = ne_eqb r s (λ q. sound.no_loop w (rw (ap (bay_of p) q ∙ at-s) at rail)) in
        let t = swap-trades Y sound r s ne p good.apart hr hs (rw at-s rail) m (good.inside r hr) h in
        record {
          legal = t.0;
          arrives = rw t.1 (traded-bay r s p hr hs r ∙ ap (bay_of p) (trade-first r s) ∙ at-s);
          others = λ c hc nc. by_cases (eqb c s)
              (λ e. let q = eqb-true c s e in
              inr (ap (bay_of p) q ∙ at-s, rw t.1 (traded-bay r s p hr hs c ∙ ap (bay_of p) (ap (trade r s) q ∙ trade-second r s))))
              (λ e. inl (rw t.1 (traded-bay r s p hr hs c ∙ ap (bay_of p) (trade-other r s c nc e))));
        }

    -- where vacating fails there is a carrier
    occupied : (vacate Y (holding finished r p) w then cross r w) p ≡ none → In w p
    unfolding cross after
    occupied e =
        by_cases (elem w p) (λ i. i)
        (λ o. let z = then_runs (vacate Y (holding finished r p) w) (cross r w) p (only []) _ (vacate-empty Y _ w p o) refl in never-some _ (sym e ∙ z))

    pub step-steps : (m : Made) → step Y finished r w p ≡ some m → Stepped finished r w p m.moves
    unfolding step
    step-steps m h =
        by-option ((vacate Y (holding finished r p) w then cross r w) p)
        (λ e. by-swapping m (occupied e) (rw e at h))
        (λ ys e. let q = rw e at h in by-vacating m (e ∙ q))

pub by-outcome : {P : Type 0} (o : Outcome) → ((a : Made) → o ≡ planned a → P) → ((c : Carrier) → o ≡ stuck c → P) → P
by-outcome (planned a) f g = f a refl
by-outcome (stuck c) f g = g c refl

never-planned : {P : Type 0} (c : Carrier) (a : Made) → stuck c ≡ planned a → P
never-planned c a h = let z : ◌≡◌ {A = ℕ} 0 1 = cc in absurd (omega arith)

pub next-split : {P : Type 0} (f g : Stage) (p : Placement) (m : Made) → (f next g) p ≡ planned m
    → ((a b : Made) → f p ≡ planned a → g (after p a.moves) ≡ planned b → m ≡ together a b → P) → P
unfolding ◌next◌ onward
next-split f g p m h k =
    by-outcome (f p)
    (λ a e. by-outcome (g (after p a.moves))
    (λ b d. let z = rw (e, d) at h in k a b e d (cc))
    (λ c d. never-planned c m (rw (e, d) at h)))
    (λ c e. never-planned c m (rw e at h))

pub or-stop : (c : Carrier) (o : Option Made) (m : Made) → or_stuck c o ≡ planned m → o ≡ some m
unfolding or_stuck
or-stop c none m h = never-planned c m h
or-stop c (some a) m h = cc

-- a and then b stand next to each other in the list that begins with u
abbrev pub Pair : Bay → List Bay → Bay → Bay → Type 0
Pair u [] a b = ⊥
Pair u (x ∷ xs) a b = ((a ≡ u) × (b ≡ x)) ⊎ Pair x xs a b

pub pair-in : (u : Bay) (l : List Bay) (a b : Bay) → Pair u l a b → In b l
pair-in u [] a b h = absurd h
pair-in u (x ∷ xs) a b h = ⊎_elim (λ k. rw k.1 (In-head x xs)) (λ k. In-tail b x xs (pair-in x xs a b k)) h

module _ (Y : Yard) (sound : Sound Y) (goals : Placement) where
  -- r has come to v; a finished carrier keeps its bay, or is one bay further back on r's path
  pub record Gone (r : Carrier) (u : Bay) (ahead : List Bay) (v : Bay) (p : Placement) (xs : List Crossing) : Type 0 where
    pub legal : legal_plan Y p xs ≡ true
    pub arrives : bay_of (after p xs) r ≡ v
    pub others : (c : Carrier) → c < r → (bay_of (after p xs) c ≡ bay_of p c) ⊎ Pair u ahead (bay_of (after p xs) c) (bay_of p c)

  pub go-goes : (r : Carrier) (ahead : List Bay) (u v : Bay) (p : Placement) (m : Made) → Good Y p → r < length p → bay_of p r ≡ u
      → Chain Y u ahead v → NoDup (u ∷ ahead) → go Y goals r ahead p ≡ planned m → Gone r u ahead v p m.moves
  unfolding go after legal_plan
  go-goes r [] u v p m good hr at-u ch n h =
      let z : only [] ≡ m = cc in
      rw (← z) (record { legal = refl; arrives = at-u ∙ ch; others = λ c k. inl refl })
  go-goes r (x ∷ ahead) u v p m good hr at-u ch n h =
      next-split (λ q. or_stuck r (step Y r r x q)) (go Y goals r ahead) p m h
      (λ first later e h1 q.
      let a = first.moves in
      let b = later.moves in
      let s = step-steps Y sound r r x p good hr (omega arith) (rw at-u ch.0) first (or-stop r (step Y r r x p) first e) in
      let g = go-goes r ahead x v (after p a) later (plan-good Y sound p a good s.legal) (rw after-length hr) s.arrives ch.1 n.1 h1 in
      rw q (record {
        legal = plan-append Y p a b s.legal g.legal;
        arrives = rw after-append g.arrives;
        others = λ c k. rw after-append (moved c a b (s.others c k (ne_eqb c r (λ i. absurd (omega arith)))) (g.others c k));
      }))
    where
      moved : (c : Carrier) (a b : List Crossing)
          → (bay_of (after p a) c ≡ bay_of p c) ⊎ ((bay_of p c ≡ x) × (bay_of (after p a) c ≡ bay_of p r))
          → (bay_of (after (after p a) b) c ≡ bay_of (after p a) c) ⊎ Pair x ahead (bay_of (after (after p a) b) c) (bay_of (after p a) c)
          → (bay_of (after (after p a) b) c ≡ bay_of p c) ⊎ Pair u (x ∷ ahead) (bay_of (after (after p a) b) c) (bay_of p c)
      moved c a b (inl k) (inl l) = inl (l ∙ k)
      moved c a b (inl k) (inr l) = inr (inr (rw k at l))
      moved c a b (inr k) (inl l) = inr (inl (l ∙ k.1 ∙ at-u, k.0))
      moved c a b (inr k) (inr l) =
          not-both (pair-in x ahead _ u (rw (k.1 ∙ at-u) at l)) (Out-tail u x ahead n.0)

pub pair-joined : (Y : Yard) (u : Bay) (l : List Bay) (v a b : Bay) → Chain Y u l v → Pair u l a b → joined Y a b ≡ true
pair-joined Y u [] v a b ch h = absurd h
pair-joined Y u (x ∷ xs) v a b ch h = ⊎_elim (λ k. rw (k.0, k.1) ch.0) (λ k. pair-joined Y x xs v a b ch.1 k) h

-- in a list with no bay twice, what follows v stands behind it
pub follows-in : (pre : List Bay) (u v : Bay) (vs : List Bay) (b : Bay) → NoDup (u ∷ (pre ++ (v ∷ vs))) → Pair u (pre ++ (v ∷ vs)) v b → In b vs
follows-in [] u v vs b n h =
    ⊎_elim (λ k. absurd (Out-head u v vs n.0 (sym k.0))) (λ k. pair-in v vs v b k) h
follows-in (x ∷ pre) u v vs b n h =
    ⊎_elim
    (λ k. not-both (In-tail v x (pre ++ (v ∷ vs)) (In-append-right v pre (v ∷ vs) (In-head v vs))) (rw (← k.0) at n.0))
    (λ k. follows-in pre x v vs b n.1 k)
    h

-- a place below the length is the place of a member
pub place_of-in : (p : Placement) (b : Bay) → carrier_at p b < length p → bay_of p (carrier_at p b) ≡ b
unfolding place_of
place_of-in [] b h = absurd (omega arith)
place_of-in (c ∷ p) b h =
    by_cases (eqb b c) (λ e. rw e (sym (eqb-true b c e))) (λ e. let k = rw e at h in rw e (place_of-in p b (omega arith)))

module _ (Y : Yard) (sound : Sound Y) (goals : Placement) (goals-apart : Apart goals) (finished : ℕ) (hf : finished ≤ length goals)
    (u₀ : Bay) (path₀ : List Bay) (v₀ : Bay) (chain : Chain Y u₀ path₀ v₀) (nodup : NoDup (u₀ ∷ path₀)) where
  -- each finished carrier is home, or one bay back on the path, and its goal is none of these bays
  abbrev Settled : List Bay → Placement → Type 0
  Settled vs p = (c : Carrier) → c < finished → (bay_of p c ≡ bay_of goals c) ⊎ (Pair u₀ path₀ (bay_of p c) (bay_of goals c) × Out (bay_of goals c) vs)

  module _ (pre : List Bay) (v : Bay) (vs : List Bay) (split : path₀ ≡ pre ++ (v ∷ vs)) (p : Placement) (good : Good Y p) (len : length p ≡ length goals)
      (settled : Settled vs p) where
    whose : Carrier
    whose = carrier_at (take finished goals) v

    -- that carrier's goal is v, and no other's is
    whose-goal : whose < finished → bay_of goals whose ≡ v
    unfolding whose
    whose-goal h =
        let t : whose < length (take finished goals) = rw length-take (omega arith) in
        sym (get_or-take finished goals whose 0 h) ∙ place_of-in (take finished goals) v t

    goal-whose : (c : Carrier) → c < finished → bay_of goals c ≡ v → (c ≡ whose) × (whose < finished)
    unfolding whose
    goal-whose c h e =
        let i : In v (take finished goals) = rw e at (in-finished finished goals hf c h) in
        let t : whose < finished = let k = rw length-take at (place_of-there (take finished goals) v i) in omega arith in
        (goals-apart c whose (omega arith) (omega arith) (e ∙ sym (whose-goal t)), t)

    -- nobody else that is finished stands at v
    nobody-else : (c : Carrier) → c < finished → eqb c whose ≡ false → bay_of p c ≡ v → ⊥
    nobody-else c h ne e =
        ⊎_elim
        (λ k. eqb-false c whose ne (goal-whose c h (sym k ∙ e)).0)
        (λ k. not-both (follows-in pre u₀ v vs (bay_of goals c) (rw split at nodup) (rw (e, split) at k.0)) k.1)
        (settled c h)

    -- one more bay is looked after
    still : (q : Placement) → ((c : Carrier) → c < finished → eqb c whose ≡ false → bay_of q c ≡ bay_of p c) → (whose < finished → bay_of q whose ≡ v) → Settled (v ∷ vs) q
    still q same there c h =
        by_cases (eqb c whose)
        (λ e.
        let i = eqb-true c whose e in
        let t : whose < finished = rw i at h in
        inl (rw i (there t ∙ sym (whose-goal t))))
        (λ e. ⊎_elim
        (λ k. inl (same c h e ∙ k))
        (λ k. inr (
          rw (same c h e) k.0,
          out-cons (bay_of goals c) v vs (λ d. eqb-false c whose e (goal-whose c h d).0) k.1,
        ))
        (settled c h))

    home-at : (m : Made) → home_at Y goals finished v p ≡ planned m → (legal_plan Y p m.moves ≡ true) × Settled (v ∷ vs) (after p m.moves)
    unfolding home_at whose after legal_plan
    home-at m h =
        by_cases (ltb whose finished and not (eqb (bay_of p whose) v))
        (λ e.
        let t : whose < finished = ltb-true whose finished (and_left _ _ e) in
        let away : eqb (bay_of p whose) v ≡ false = not-true (eqb (bay_of p whose) v) (and_right _ _ e) in
        let rail : joined Y (bay_of p whose) v ≡ true =
        ⊎_elim
        (λ k. absurd (eqb-false (bay_of p whose) v away (k ∙ whose-goal t)))
        (λ k. pair-joined Y u₀ path₀ v₀ (bay_of p whose) v chain (rw (whose-goal t) at k.0))
        (settled whose t) in
        let s = step-steps Y sound finished whose v p good (omega arith) (omega arith) rail m (or-stop whose (step Y finished whose v p) m (rw e at h)) in (
          s.legal,
          still (after p m.moves)
              (λ c k ne. ⊎_elim (λ i. i) (λ i. absurd (nobody-else c k ne i.0)) (s.others c k ne))
              (λ k. s.arrives),
        ))
        (λ e.
        let z : only [] ≡ m = let y = rw e at h in cc in
        rw (← z) (
          refl,
          still p (λ c k ne. refl)
              (λ k. by_cases (eqb (bay_of p whose) v)
              (λ i. eqb-true (bay_of p whose) v i)
              (λ i. not-both (and_both _ _ (lt-ltb whose finished k) (ap not i)) e)),
        ))

  home-homes : (l pre : List Bay) (last : Bay) (p : Placement) (m : Made) → path₀ ≡ pre ++ (l ++ (last ∷ [])) → Good Y p → length p ≡ length goals
      → Settled (last ∷ []) p → way_home Y goals finished l p ≡ planned m → (legal_plan Y p m.moves ≡ true) × Settled (l ++ (last ∷ [])) (after p m.moves)
  unfolding way_home after legal_plan
  home-homes [] pre last p m split good len settled h = let z : only [] ≡ m = cc in rw (← z) (refl, settled)
  home-homes (v ∷ l) pre last p m split good len settled h =
      next-split (way_home Y goals finished l) (home_at Y goals finished v) p m h
      (λ first later e h1 q.
      let a = first.moves in
      let b = later.moves in
      let r = home-homes l (pre ++ (v ∷ [])) last p first (split ∙ sym (append_assoc pre (v ∷ []) (l ++ (last ∷ [])))) good len settled e in
      let t = home-at pre v (l ++ (last ∷ [])) split (after p a) (plan-good Y sound p a good r.0) (after-length p a ∙ len) r.1 later h1 in
      rw q (plan-append Y p a b r.0 t.0, λ c k. rw after-append (t.1 c k)))

-- the last bay of a path is where it leads
pub chain-last : (Y : Yard) (u : Bay) (l : List Bay) (v : Bay) → Chain Y u l v → ((l ≡ []) × (u ≡ v)) ⊎ (l ≡ drop_last l ++ (v ∷ []))
chain-last Y u [] v ch = inl (refl, ch)
chain-last Y u (x ∷ []) v ch = inr (ap (λ z. z ∷ []) ch.1)
chain-last Y u (x ∷ y ∷ l) v ch =
    ⊎_elim
    (λ k. absurd (cons≢nil k.0))
    (λ k. inr (ap (λ t. x ∷ t) k))
    (chain-last Y x (y ∷ l) v ch.1)

home-none : (Y : Yard) (goals : Placement) (k : ℕ) (p : Placement) (b : Made) → way_home Y goals k [] p ≡ planned b → b ≡ only []
unfolding way_home
home-none Y goals k p b h = cc

-- no bay of a route is held, and so none of a way
pub route-out : (Y : Yard) (held : List Bay) (u : Bay) (l : List Bay) (v b : Bay) → Route Y held u l v → In b l → Out b held
route-out Y held u [] v b route i = In-nil b i
route-out Y held u (x ∷ l) v b route i = In-cases b x l i (λ e. rw e route.1.1) (λ k. route-out Y held x l v b route.2 k)

way_out : (Y : Yard) (held : List Bay) (u : Bay) (l : List Bay) (v b : Bay) → Way Y held u l v → In b l → Out b held
way_out Y held u l v b way i =
    In-cases b u way.rest (rw way.starts at i) (λ e. rw e way.free.1) (λ k. route-out Y held u way.rest v b way.route k)

module _ (Y : Yard) (sound : Sound Y) (goals : Placement) (goals-apart : Apart goals) where
  -- the carriers below r are home
  abbrev pub Home : ℕ → Placement → Type 0
  Home r p = (c : Carrier) → c < r → bay_of p c ≡ bay_of goals c

  module _ (r : Carrier) (p : Placement) (good : Good Y p) (len : length p ≡ length goals) (hr : r < length p) (at_home : Home r p)
      (u : Bay) (a : List Crossing) where
    -- r at its goal, and those finished before it at home or one bay back
    come : (ahead : List Bay) → Gone Y sound goals r u ahead (bay_of goals r) p a → (chain : Chain Y u ahead (bay_of goals r)) (n : NoDup (u ∷ ahead))
        → Settled Y sound goals goals-apart (suc r) (omega arith) u ahead (bay_of goals r) chain n (bay_of goals r ∷ []) (after p a)
    come ahead gone chain n c h =
        by_cases (eqb c r)
        (λ e. inl (rw (eqb-true c r e) gone.arrives))
        (λ e.
        let k : c < r = let d = eqb-false c r e in omega arith in
        ⊎_elim
        (λ i. inl (i ∙ at_home c k))
        (λ i. inr (
          rw (at_home c k) at i,
          out-cons (bay_of goals c) (bay_of goals r) [] (λ d. eqb-false c r e (goals-apart c r (omega arith) (omega arith) d)) (nothing-in-nil (bay_of goals c)),
        ))
        (gone.others c k))

    -- Part of the way home, from the last bay but one backwards, is legal, and leaves each of them at home or one bay back.
    pub back-or-home : (pre l : List Bay) (later : Made) (ahead : List Bay) → ahead ≡ pre ++ (l ++ (bay_of goals r ∷ [])) → Chain Y u ahead (bay_of goals r) → NoDup (u ∷ ahead)
        → Gone Y sound goals r u ahead (bay_of goals r) p a → way_home Y goals (suc r) l (after p a) ≡ planned later
        → (legal_plan Y (after p a) later.moves ≡ true)
        × ((c : Carrier) → c < suc r → let b = bay_of (after (after p a) later.moves) c in (b ≡ bay_of goals c) ⊎ Pair u ahead b (bay_of goals c))
    back-or-home pre l later ahead split chain n gone h =
        let t = home-homes Y sound goals goals-apart (suc r) (omega arith) u ahead (bay_of goals r) chain n l pre (bay_of goals r) (after p a) later split
        (plan-good Y sound p a good gone.legal) (after-length p a ∙ len) (come ahead gone chain n) h in
        (t.0, λ c k. ⊎_elim (λ i. inl i) (λ i. inr i.0) (t.1 c k))

    came : (ahead : List Bay) (later : Made) → Chain Y u ahead (bay_of goals r) → NoDup (u ∷ ahead) → Gone Y sound goals r u ahead (bay_of goals r) p a
        → way_home Y goals (suc r) (drop_last ahead) (after p a) ≡ planned later → (legal_plan Y p (a ++ later.moves) ≡ true) × Home (suc r) (after p (a ++ later.moves))
    came ahead later chain n gone h =
        let b = later.moves in
        let q = after p a in
        let s = come ahead gone chain n in
        let good-q : Good Y q = plan-good Y sound p a good gone.legal in
        ⊎_elim
        (λ k.
        let z : later ≡ only [] = home-none Y goals (suc r) q later (rw k.0 at h) in
        rw (z, append-nil) (gone.legal, λ c i. ⊎_elim (λ j. j) (λ j. absurd (rw k.0 at j.0)) (s c i)))
        (λ split.
        let t = home-homes Y sound goals goals-apart (suc r) (omega arith) u ahead (bay_of goals r) chain n (drop_last ahead) [] (bay_of goals r) q later split good-q
        (after-length p a ∙ len) s h in (
          plan-append Y p a b gone.legal t.0,
          λ c k. rw after-append
              (⊎_elim (λ i. i) (λ i. not-both (pair-in u ahead _ (bay_of goals c) i.0) (rw (← split) at i.1)) (t.1 c k)),
        ))
        (chain-last Y u ahead (bay_of goals r) chain)

  -- "the present bays of finished carriers" are avoided in a carousel,
  finished-avoided : (r : Carrier) (p : Placement) → r ≤ length p → carousel Y ≡ true → (c : Carrier) → c < r → In (bay_of p c) (avoided Y goals r p)
  finished-avoided r p few round c h = rw round (in-finished r p few c h)

  -- and no other bay is
  not-avoided : (r : Carrier) (p : Placement) (b : Bay) → ((c : Carrier) → c < r → bay_of p c ≡ b → ⊥) → Out b (avoided Y goals r p)
  not-avoided r p b f = by_cases (carousel Y) (λ e. rw e (out-finished r p b f)) (λ e. rw e (nothing-in-nil b))

  -- What r's path is: the shortest past the bays avoided, and none of these is r's bay or its goal.
  pub path-short : (r : Carrier) (p : Placement) (path : List Bay) → Good Y p → length p ≡ length goals → r < length p → In (bay_of goals r) (up_to Y.bays)
      → Home r p → path_of Y goals r p ≡ some path → Shortest Y (avoided Y goals r p) (bay_of p r) (bay_of goals r) path
  unfolding path_between
  path-short r p path good len hr goal-in at_home e =
      let held = avoided Y goals r p in
      let w = some-when (elem (bay_of p r) (nearest_first Y held (bay_of goals r))) (shortest_path Y held (bay_of p r) (bay_of goals r)) e in
      rw w.1 at (shortest-path Y held (bay_of p r) (bay_of goals r)
      (good.inside r hr, not-avoided r p (bay_of p r) (λ c k i. absurd (let d = good.apart c r (omega arith) hr i in omega arith)))
      (goal-in, not-avoided r p (bay_of goals r) (λ c k i. absurd (let d = goals-apart c r (omega arith) (omega arith) (sym (at_home c k) ∙ i) in omega arith)))
      w.0)

  -- So in a carousel no finished carrier stands on it.
  pub path-avoids : (r : Carrier) (p : Placement) (path : List Bay) → Good Y p → length p ≡ length goals → r < length p → In (bay_of goals r) (up_to Y.bays)
      → Home r p → path_of Y goals r p ≡ some path → carousel Y ≡ true → (c : Carrier) → c < r → Out (bay_of p c) path
  path-avoids r p path good len hr goal-in at_home e round c h =
      let way = (path-short r p path good len hr goal-in at_home e).way in
      let taken = finished-avoided r p (omega arith) round c h in
      by_cases (elem (bay_of p c) path) (λ i. not-both taken (way_out Y (avoided Y goals r p) (bay_of p r) path (bay_of goals r) (bay_of p c) way i)) (λ o. o)

  -- Carrier r goes to its goal and the finished ones that it displaced go home.
  pub carry-carries : (r : Carrier) (p : Placement) (m : Made) → Good Y p → length p ≡ length goals → r < length p
      → In (bay_of goals r) (up_to Y.bays) → Home r p → carry Y goals r p ≡ planned m
      → (legal_plan Y p m.moves ≡ true) × Home (suc r) (after p m.moves)
  unfolding carry along
  carry-carries r p m good len hr goal-in at_home h =
      by-option (path_of Y goals r p)
      (λ e. never-planned r m (rw e at h))
      (λ path e.
      let short = path-short r p path good len hr goal-in at_home e in
      let way = short.way in
      let held = avoided Y goals r p in
      let ahead = drop 1 path in
      let cons : path ≡ bay_of p r ∷ ahead = rw way.starts in
      let n : NoDup (bay_of p r ∷ ahead) = rw cons at short.once in
      next-split (go Y goals r ahead) (way_home Y goals (suc r) (drop_last ahead)) p m (rw e at h)
      (λ first later d h1 q.
      rw q (came r p good len hr at_home (bay_of p r) first.moves ahead later (way-tail Y held (bay_of p r) path (bay_of goals r) way) n
      (go-goes Y sound goals r ahead (bay_of p r) (bay_of goals r) p first good hr refl (way-tail Y held (bay_of p r) path (bay_of goals r) way) n d) h1)))

  -- k carriers from r on: all below r + k are home.
  pub all-carried : ((c : Carrier) → c < length goals → In (bay_of goals c) (up_to Y.bays)) → (k : ℕ) (r : Carrier) (p : Placement) (m : Made)
      → Good Y p → length p ≡ length goals → r + k ≤ length goals → Home r p → carry_from Y goals r k p ≡ planned m
      → (legal_plan Y p m.moves ≡ true) × Home (r + k) (after p m.moves)
  unfolding carry_from after legal_plan
  all-carried inside zero r p m good len e at_home h =
      let z : only [] ≡ m = cc in
      rw (← z) (refl, λ c k. at_home c (omega arith))
  all-carried inside (suc k) r p m good len e at_home h =
      next-split (carry Y goals r) (carry_from Y goals (suc r) k) p m h
      (λ first later d h1 q.
      let a = first.moves in
      let b = later.moves in
      let hr : r < length p = omega arith in
      let t = carry-carries r p first good len hr (inside r (omega arith)) at_home d in
      let s = all-carried inside k (suc r) (after p a) later (plan-good Y sound p a good t.0) (after-length p a ∙ len) (omega arith) t.1 h1 in
      rw q (plan-append Y p a b t.0 s.0, λ c i. rw after-append (s.1 c (omega arith))))

  -- THE THEOREM: a plan of the procedure is legal, and ends at the goals.
  pub procedure-right : Good Y goals → (p : Placement) (m : Made) → Good Y p → length p ≡ length goals
      → procedure Y goals p ≡ planned m → (legal_plan Y p m.moves ≡ true) × (after p m.moves ≡ goals)
  unfolding procedure
  procedure-right gg p m good len h =
      let xs = m.moves in
      let t = all-carried gg.inside (length goals) 0 p m good len (omega arith) (λ c k. absurd (omega arith)) h in
      (t.0, ext_get_or 0 (after p xs) goals (after-length p xs ∙ len) (λ c k. t.1 c (let m = after-length p xs in omega arith)))
