-- Whether a swap succeeds, and at which junction, depends on the occupied bays alone. Each of its actions asks where the two carriers stand and which
-- bays are empty, and is legal: so at two placements that are alike it goes over the same tracks, and leaves them alike for the next.
-- Assumes nothing.
use mathlib.Core.Path.{◌≡◌, refl, sym, ◌∙◌, ap}
use mathlib.Core.Bool.{Bool, true, false, not}
use mathlib.Core.List.{List, [], ◌∷◌, ◌++◌}
use mathlib.Core.Logic.{◌↔◌}
use mathlib.Core.Option.{Option, none, some}
use Prim.Native.Nat.{min, max}
use lib.Dec.{eqb, leb, ltb}
use lib.ListN.{length, get_or, take, drop}
use lib.Seq.{get_or-set_other}
use borrow.Author.Tests.{not-true, eqb-true, eqb-false, ne_eqb}
use Rattle.paper.specs.Basics.{◌and◌, filter, find, elem, without, In, Out}
use Rattle.paper.specs.Yard.{Bay, Carrier, Yard, Placement, crossing, open_bays, bay_of, is_empty, move, after, joined, neighbours, junction}
use Rattle.paper.specs.Path.{nearest_first, shortest_path, Free}
use Rattle.paper.specs.Procedure.{Made, only, together, Action, ◌then◌, cross, exchange, undo, Cleared, following, vacate, their_bays, clearing_held, bring, clearing, clear_once, aside, around, first_kept, go_on, gone_on, clear, finish, trial_led, trial, swap}
use Rattle.paper.proofs.Tests.{by_cases, never-some, and_left, and_right}
use Rattle.paper.proofs.Members.{In-head, In-tail, filter-in, without_in, nothing-in-nil}
use Rattle.paper.proofs.Rings.{joined-sym, reached-sym, walk-free, reached-walk}
use Rattle.paper.proofs.Shortest.{shortest-path}
use Rattle.paper.proofs.Playing.{Sound}
use Rattle.paper.proofs.Vacating.{vacate-vacates}
use Rattle.paper.proofs.Actions.{eqb_comm, pulled}
use Rattle.paper.proofs.GoingOn.{aside-empties}
use Rattle.paper.proofs.Swapping.{Chain, way-tail, way-second, bring-brings, once-clears}
use Rattle.alike.specs.Alike.{Alike, Matched, Likewise, Both, Agree, fits, OccupiedDecide}
use Rattle.alike.proofs.Tracks.{matched-after, tracks-append, undo-tracks}
use Rattle.alike.proofs.Agreeing.{both-bind, both-if-some, both-else, both_first, alone, likewise-together, agree_then, agree-cross, agree-cross-then, filter_same, find-same, vacate-agrees, vacate-matched}

-- what is cleared: likewise, and the same bays are kept
record ClearedLikewise (c d : Cleared) : Type 0 where
  made : Likewise c.made d.made
  kept : c.kept ≡ d.kept

following-likewise : (a b : Made) (c d : Cleared) → Likewise a b → ClearedLikewise c d → ClearedLikewise (following a c) (following b d)
following-likewise a b c d l k = record { made = likewise-together a b c.made d.made l k.made; kept = k.kept }

-- bays that are empty at one are so at the other
empty-too : (Y : Yard) (p q : Placement) → Alike Y p q → (x : Bay) → In x (open_bays Y) → Out x p → Out x q
empty-too Y p q a x i o = not-true (elem x q) (sym (a x i) ∙ ap not o)

module _ (Y : Yard) (sound : Sound Y) (L M L' M' : Carrier) (differ : eqb L M ≡ false) (differ' : eqb L' M' ≡ false) where
  abbrev Matches : Placement → Placement → Type 0
  Matches p q = Matched Y L M p L' M' q

  -- the leader crosses from u to x and the follower from w to u
  pull-agrees : (u w x : Bay) (g g' : Action) (p q : Placement) → Matches p q → bay_of p L ≡ u → bay_of p M ≡ w → joined Y u x ≡ true → joined Y w u ≡ true → Out x p
      → (Matches (move (move p (crossing L u x)) (crossing M w u)) (move (move q (crossing L' u x)) (crossing M' w u))
      → Agree (g (move (move p (crossing L u x)) (crossing M w u))) (g' (move (move q (crossing L' u x)) (crossing M' w u))))
      → Agree ((cross L x then cross M u then g) p) ((cross L' x then cross M' u then g') q)
  unfolding after
  pull-agrees u w x g g' p q m at-L at-M ux wu o k =
      let at-L' : bay_of q L' ≡ u = sym m.first ∙ at-L in
      let at-M' : bay_of q M' ≡ w = sym m.second ∙ at-M in
      let o' : Out x q = empty-too Y p q m.alike x (sound.inside u x ux) o in
      let pl = pulled Y L M differ u w x p m.apart m.there m.with at-L at-M ux wu o in
      let pl' = pulled Y L' M' differ' u w x q m.apart' m.there' m.with' at-L' at-M' ux wu o' in
      let follows = matched-after Y L M L' M' p q (crossing L u x ∷ crossing M w u ∷ []) (crossing L' u x ∷ crossing M' w u ∷ []) m pl.both-legal pl'.both-legal refl in
      agree-cross-then L L' u x (cross M u then g) (cross M' u then g') p q at-L at-L'
      (agree-cross-then M M' w u g g' (move p (crossing L u x)) (move q (crossing L' u x)) pl.second-bay pl'.second-bay (k follows))

  -- the follower crosses to x and then the leader to y
  back-agrees : (x y : Bay) (p q : Placement) → Matches p q → Agree ((cross M x then cross L y) p) ((cross M' x then cross L' y) q)
  back-agrees x y p q m =
      agree-cross-then M M' (bay_of q M') x (cross L y) (cross L' y) p q m.second refl
      (agree-cross L L' (bay_of q L') y _ _ (get_or-set_other p M L x 0 (eqb-false L M differ) ∙ m.first) (get_or-set_other q M' L' x 0 (eqb-false L' M' differ')))

  -- 1. Bring
  bring-agrees : (ahead : List Bay) (v : Bay) (p q : Placement) → Matches p q → Chain Y (bay_of p L) ahead v → joined Y (bay_of p M) (bay_of p L) ≡ true
      → Agree (bring Y L M ahead p) (bring Y L' M' ahead q)
  unfolding bring
  bring-agrees [] v p q m ch j = alone (only [])
  bring-agrees (x ∷ ahead) v p q m ch j =
      let u = bay_of p L in
      let w = bay_of p M in
      let held = their_bays L M p in
      let ix = sound.inside u x ch.0 in
      rw (← m.first, ← m.second)
      (agree_then (vacate Y held x) (cross L x then cross M u then bring Y L M ahead) (vacate Y held x) (cross L' x then cross M' u then bring Y L' M' ahead) p q
      (vacate-agrees Y held x ix p q m.alike)
      (λ a b e d l.
      let p₁ = after p a.moves in
      let vac = vacate-vacates Y held x p a m.apart ix e in
      let kL : bay_of p₁ L ≡ u = vac.keeps L m.there (In-head u (w ∷ [])) in
      let kM : bay_of p₁ M ≡ w = vac.keeps M m.with (In-tail w u (w ∷ []) (In-head w [])) in
      let m₁ = vacate-matched Y held x ix L M L' M' p q a b m e d l in
      let pl = pulled Y L M differ u w x p₁ m₁.apart m₁.there m₁.with kL kM ch.0 j vac.empties in
      pull-agrees u w x (bring Y L M ahead) (bring Y L' M' ahead) p₁ (after q b.moves) m₁ kL kM ch.0 j vac.empties
      (λ m₂. bring-agrees ahead v _ _ m₂ (rw pl.leader ch.1) (rw (pl.leader, pl.follower) ch.0))))

  -- two vacates, one after the other
  module _ (v b e x : Bay) (ix : In x (open_bays Y)) (ie : In e (open_bays Y)) (p q : Placement) (m : Matches p q) where
    aside-agrees : Agree (aside Y v b e x p) (aside Y v b e x q)
    unfolding aside
    aside-agrees =
        agree_then (vacate Y (v ∷ b ∷ []) x) (vacate Y (v ∷ b ∷ x ∷ []) e) (vacate Y (v ∷ b ∷ []) x) (vacate Y (v ∷ b ∷ x ∷ []) e) p q
        (vacate-agrees Y (v ∷ b ∷ []) x ix p q m.alike)
        (λ a c f h l. vacate-agrees Y (v ∷ b ∷ x ∷ []) e ie _ _ (vacate-matched Y (v ∷ b ∷ []) x ix L M L' M' p q a c m f h l).alike)

    aside-matched : (a c : Made) → aside Y v b e x p ≡ some a → aside Y v b e x q ≡ some c → Likewise a c → Matches (after p a.moves) (after q c.moves)
    aside-matched a c f h l =
        matched-after Y L M L' M' p q a.moves c.moves m
        (aside-empties Y v b e x p a m.apart ix ie f).legal (aside-empties Y v b e x q c m.apart' ix ie h).legal l.over

  -- ## Clear

  module _ (v b : Bay) where
    -- every neighbour of v is a bay of the yard
    neighbour-inside : (z : Bay) → In z (neighbours Y v) → In z (open_bays Y)
    unfolding neighbours
    neighbour-inside z i = filter-in (joined Y v) (open_bays Y) z i

    clearing-agrees : (others kept : List Bay) (p q : Placement) → Matches p q → ((z : Bay) → In z others → In z (open_bays Y))
        → ClearedLikewise (clearing Y v b kept others p) (clearing Y v b kept others q)
    unfolding clearing
    clearing-agrees [] kept p q m g = record { made = alone (only []); kept = refl }
    clearing-agrees (x ∷ xs) kept p q m g =
        by_cases (leb 2 (length kept))
        (λ e. rw e (record { made = alone (only []); kept = refl }))
        (λ e. rw e (both-if-some Likewise ClearedLikewise (vacate Y held x p) (vacate Y held x q) _ _ _ _ (vacate-agrees Y held x ix p q m.alike)
        (λ a d f h l.
        let rest = clearing-agrees xs (kept ++ (x ∷ [])) (after p a.moves) (after q d.moves) (vacate-matched Y held x ix L M L' M' p q a d m f h l) later in
        following-likewise a d _ _ l rest)
        (clearing-agrees xs kept p q m later)))
      where
        held : List Bay
        held = clearing_held v b kept

        ix : In x (open_bays Y)
        ix = g x (In-head x xs)

        later : (z : Bay) → In z xs → In z (open_bays Y)
        later z i = g z (In-tail z x xs i)

    once-agrees : (p q : Placement) → Matches p q → ClearedLikewise (clear_once Y v b p) (clear_once Y v b q)
    unfolding clear_once
    once-agrees p q m =
        let others = without (b ∷ []) (neighbours Y v) in
        let kept = take 2 (filter (is_empty p) others) in
        let inside : (z : Bay) → In z others → In z (open_bays Y) = λ z i. neighbour-inside z (without_in (b ∷ []) (neighbours Y v) z i) in
        rw (← filter_same (is_empty p) (is_empty q) others (λ z i. m.alike z (inside z i)))
        (clearing-agrees (without kept others) kept p q m (λ z i. inside z (without_in kept others z i)))

    -- going on: the leader stands at v and the follower at b, beside it, and e is an empty neighbour of v
    module _ (vb : joined Y v b ≡ true) (e : Bay) (ve : joined Y v e ≡ true) (p q : Placement) (m : Matches p q) (at_v : bay_of p L ≡ v) (at_b : bay_of p M ≡ b)
        (free : Out e p) where
      around-agrees : (x : Bay) → In x (open_bays Y) → Agree (around Y L M v b e x p) (around Y L' M' v b e x q)
      unfolding around
      around-agrees x ix =
          let ib = sound.inside v b vb in
          pull-agrees v b e (aside Y v e b x then cross M b then cross L v) (aside Y v e b x then cross M' b then cross L' v) p q m at_v at_b ve (joined-sym Y v b vb) free
          (λ m₁. agree_then (aside Y v e b x) (cross M b then cross L v) (aside Y v e b x) (cross M' b then cross L' v) _ _ (aside-agrees v e b x ix ib _ _ m₁)
          (λ a c f h l. back-agrees b v _ _ (aside-matched v e b x ix ib _ _ m₁ a c f h l)))

      kept-agrees : (attempt attempt' : Bay → Action) (xs : List Bay) → ((x : Bay) → In x xs → Agree (attempt x p) (attempt' x q))
          → Both ClearedLikewise (first_kept Y attempt e xs p) (first_kept Y attempt' e xs q)
      unfolding first_kept
      kept-agrees attempt attempt' xs h =
          both_first ClearedLikewise _ _ xs
          (λ x i. both-bind Likewise ClearedLikewise (attempt x p) (attempt' x q) _ _ (h x i) (λ a c f g l. record { made = l; kept = refl }))

      going-agrees : Both ClearedLikewise (go_on Y L M v b e p) (go_on Y L' M' v b e q)
      unfolding go_on
      going-agrees =
          let others = without (b ∷ e ∷ []) (neighbours Y v) in
          let inside : (z : Bay) → In z others → In z (open_bays Y) = λ z i. neighbour-inside z (without_in (b ∷ e ∷ []) (neighbours Y v) z i) in
          both-else ClearedLikewise
          (first_kept Y (aside Y v b e) e others p) (first_kept Y (aside Y v b e) e others q)
          (first_kept Y (around Y L M v b e) e others p) (first_kept Y (around Y L' M' v b e) e others q)
          (kept-agrees (aside Y v b e) (aside Y v b e) others (λ x i. aside-agrees v b e x (inside x i) (sound.inside v e ve) p q m))
          (kept-agrees (around Y L M v b e) (around Y L' M' v b e) others (λ x i. around-agrees x (inside x i)))

    gone-agrees : (p q : Placement) (a c : Made) (kept : List Bay) → joined Y v b ≡ true → Likewise a c → Matches (after p a.moves) (after q c.moves)
        → bay_of (after p a.moves) L ≡ v → bay_of (after p a.moves) M ≡ b → ((z : Bay) → In z kept → (joined Y v z ≡ true) × Out z (after p a.moves))
        → ClearedLikewise (gone_on Y L M v b p a kept) (gone_on Y L' M' v b q c kept)
    unfolding gone_on
    gone-agrees p q a c [] vb l m at_v at_b k = record { made = l; kept = refl }
    gone-agrees p q a c (e ∷ []) vb l m at_v at_b k =
        let ke = k e (In-head e []) in
        both-if-some ClearedLikewise ClearedLikewise (go_on Y L M v b e (after p a.moves)) (go_on Y L' M' v b e (after q c.moves)) _ _ _ _
        (going-agrees vb e ke.0 (after p a.moves) (after q c.moves) m at_v at_b ke.1)
        (λ d d' f h t. following-likewise a c d d' l t)
        (record { made = l; kept = refl })
    gone-agrees p q a c (x ∷ y ∷ rest) vb l m at_v at_b k = record { made = l; kept = refl }

    -- 2. Clear
    clear-agrees : (p q : Placement) → Matches p q → bay_of p L ≡ v → bay_of p M ≡ b → joined Y v b ≡ true → ClearedLikewise (clear Y L M v b p) (clear Y L' M' v b q)
    unfolding clear
    clear-agrees p q m at_v at_b vb =
        let once = clear_once Y v b p in
        let once' = clear_once Y v b q in
        let c = once-clears Y sound v b p m.apart in
        let c' = once-clears Y sound v b q m.apart' in
        let same = once-agrees p q m in
        rw (← same.kept)
        (gone-agrees p q once.made once'.made once.kept vb same.made
        (matched-after Y L M L' M' p q once.made.moves once'.made.moves m c.legal c'.legal same.made.over)
        (c.stays L m.there (rw at_v (In-head v (b ∷ []))) ∙ at_v)
        (c.stays M m.with (rw at_b (In-tail b v (b ∷ []) (In-head b []))) ∙ at_b)
        c.kept_empty)

    -- 3 and 4. Exchange and undo
    finish-agrees : (a c : Made) (kept : List Bay) → Likewise a c → Agree (finish Y L M v b a kept) (finish Y L' M' v b c kept)
    unfolding finish exchange
    finish-agrees a c [] l = tt
    finish-agrees a c (x ∷ []) l = tt
    finish-agrees a c (x ∷ y ∷ rest) l =
        let low = min x y in
        let high = max x y in
        record {
          over = tracks-append (a.moves ++ exchange L M v b low high) (c.moves ++ exchange L' M' v b low high) (undo L M a.moves) (undo L' M' c.moves)
              (tracks-append a.moves c.moves (exchange L M v b low high) (exchange L' M' v b low high) l.over refl)
              (undo-tracks L M L' M' a.moves c.moves l.over);
          parks = l.parks;
        }

  -- ## The trial

  led-agrees : (v : Bay) (ahead : List Bay) (p q : Placement) → Matches p q → Chain Y (bay_of p L) ahead v → joined Y (bay_of p M) (bay_of p L) ≡ true
      → Agree (trial_led Y L M v ahead p) (trial_led Y L' M' v ahead q)
  unfolding trial_led
  led-agrees v ahead p q m ch j =
      both-bind Likewise Likewise (bring Y L M ahead p) (bring Y L' M' ahead q) _ _ (bring-agrees ahead v p q m ch j)
      (λ a c f h l.
      let br = bring-brings Y sound L M differ ahead v p a m.apart m.there m.with ch j f in
      let br' = bring-brings Y sound L' M' differ' ahead v q c m.apart' m.there' m.with' (rw (← m.first) ch) (rw (← m.first, ← m.second) j) h in
      let p₁ = after p a.moves in
      let q₁ = after q c.moves in
      let b = bay_of p₁ M in
      let m₁ = matched-after Y L M L' M' p q a.moves c.moves m br.legal br'.legal l.over in
      let cl = clear-agrees v b p₁ q₁ m₁ br.leads refl (joined-sym Y b v br.follows) in
      rw (← m₁.second, ← cl.kept)
      (finish-agrees v b (together a (clear Y L M v b p₁).made) (together c (clear Y L' M' v b q₁).made) (clear Y L M v b p₁).kept
      (likewise-together a c _ _ l cl.made)))

-- ## The swap

both-none : {A : Type 0} (R : A → A → Type 0) (o o' : Option A) → Both R o o' → (o ≡ none) ↔ (o' ≡ none)
both-none R none none h = (λ e. refl, λ e. refl)
both-none R none (some b) h = absurd h
both-none R (some a) none h = absurd h
both-none R (some a) (some b) h = (λ e. never-some a (sym e), λ e. never-some b (sym e))

-- the same pair, named the other way round
exchanged : (Y : Yard) (r s : Carrier) (p : Placement) (r' s' : Carrier) (q : Placement) → Matched Y r s p r' s' q → Matched Y s r p s' r' q
exchanged Y r s p r' s' q m = record {
  apart = m.apart;
  apart' = m.apart';
  alike = m.alike;
  there = m.with;
  there' = m.with';
  first = m.second;
  with = m.there;
  with' = m.there';
  second = m.first;
}

module _ (Y : Yard) (sound : Sound Y) (r s : Carrier) (p : Placement) (r' s' : Carrier) (q : Placement) (m : Matched Y r s p r' s' q)
    (beside : joined Y (bay_of p r) (bay_of p s) ≡ true) where
  -- side by side they are two
  two : eqb r s ≡ false
  two = ne_eqb r s (λ e. sound.no_loop (bay_of p s) (rw e at beside))

  two' : eqb r' s' ≡ false
  two' = ne_eqb r' s' (λ e. sound.no_loop (bay_of p s) (rw (m.first ∙ ap (bay_of q) e ∙ sym m.second) at beside))

  trial-agrees : (v : Bay) → In v (nearest_first Y [] (bay_of p r)) → Agree (trial Y r s v p) (trial Y r' s' v q)
  unfolding trial
  trial-agrees v i =
      let u = bay_of p r in
      let path = shortest_path Y [] u v in
      let here : Free Y [] u = (sound.inside (bay_of p s) u (joined-sym Y u (bay_of p s) beside), nothing-in-nil u) in
      let there : Free Y [] v = walk-free Y [] here (reached-walk Y [] u v i).2 in
      let way = (shortest-path Y [] u v here there (reached-sym Y [] u v here i)).way in
      rw (← m.first, ← m.second)
      (by_cases (ltb 1 (length path) and eqb (get_or path 1 0) (bay_of p s))
      (λ e.
      let second : get_or path 1 0 ≡ bay_of p s = eqb-true (get_or path 1 0) (bay_of p s) (and_right _ _ e) in
      let ch : Chain Y (bay_of p s) (drop 2 path) v = rw second at (way-second Y [] u path v way (and_left _ _ e)) in
      rw e (led-agrees Y sound s r s' r' (eqb_comm r s two) (eqb_comm r' s' two') v (drop 2 path) p q (exchanged Y r s p r' s' q m) ch beside))
      (λ e. rw e (led-agrees Y sound r s r' s' two two' v (drop 1 path) p q m (way-tail Y [] u path v way) (joined-sym Y u (bay_of p s) beside))))

  swap-agrees : Agree (swap Y r s p) (swap Y r' s' q)
  unfolding swap
  swap-agrees =
      let near = nearest_first Y [] (bay_of p r) in
      rw (← m.first) (both_first Likewise (λ v. trial Y r s v p) (λ v. trial Y r' s' v q) (filter (junction Y) near)
      (λ v i. trial-agrees v (filter-in (junction Y) near v i)))

  same-junction : find (fits Y r s p) (nearest_first Y [] (bay_of p r)) ≡ find (fits Y r' s' q) (nearest_first Y [] (bay_of q r'))
  same-junction =
      rw (← m.first) (find-same (fits Y r s p) (fits Y r' s' q) (nearest_first Y [] (bay_of p r))
      (λ v i. ap (λ t. junction Y v and t)
      (both-if-some Likewise (λ (a b : Bool). a ≡ b) (trial Y r s v p) (trial Y r' s' v q) _ _ _ _ (trial-agrees v i) (λ a b e d l. refl) refl)))

-- Whether a swap over a rail succeeds, and at which junction, depends on the occupied bays alone.
pub occupied-decide : (Y : Yard) → OccupiedDecide Y
occupied-decide Y sound r s p r' s' q m beside = record {
  trials = trial-agrees Y sound r s p r' s' q m beside;
  chosen = same-junction Y sound r s p r' s' q m beside;
  swaps = swap-agrees Y sound r s p r' s' q m beside;
  fail = both-none Likewise (swap Y r s p) (swap Y r' s' q) (swap-agrees Y sound r s p r' s' q m beside);
}
