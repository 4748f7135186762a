-- A trial at a blocked junction v fails. The bays behind v are those that are not reached: they are full, and every way out of them leads
-- over v. Whoever stands at v is held whenever a bay is vacated behind it, so that fails; and all else that a trial does keeps them full.
-- So a trial that succeeds has three neighbours of v that are not behind it: the follower's bay and the two kept.
-- Assumes nothing.
use mathlib.Core.Path.{◌≡◌, refl, sym, ◌∙◌, ap}
use mathlib.Core.Bool.{Bool, true, false}
use mathlib.Core.List.{List, [], ◌∷◌, ◌++◌}
use mathlib.Core.Option.{none, some}
use Prim.Native.Nat.{◌<◌}
use lib.Dec.{eqb, ltb, leb}
use lib.ListN.{length, get_or, take, drop, length-set}
use lib.Seq.{get_or-set_same, get_or-set_other}
use borrow.Author.Tests.{not-true, eqb-true, eqb-false}
use Rattle.paper.specs.Basics.{◌and◌, filter, elem, without, up_to, In, NoDup}
use Rattle.paper.specs.Yard.{Bay, Carrier, Yard, Placement, crossing, bay_of, carrier_at, is_empty, move, after, joined, neighbours}
use Rattle.paper.specs.Path.{rings, ring_of, shortest_path, Route, Way}
use Rattle.paper.specs.Procedure.{Made, only, together, ◌then◌, cross, shift, Cleared, nearest_empty, parking, vacate, their_bays, clearing_held, bring, clearing, clear_once, aside, around, first_kept, go_on, gone_on, clear, finish, trial_led, trial}
use Rattle.paper.proofs.Tests.{by_cases, by-option, either, some-from, not-both, never-some, and_left, and_right}
use Rattle.paper.proofs.Members.{first-of, In-head, In-tail, In-cases, In-one, In-append, take_in, filter_passes, without_in, Out-head}
use Rattle.paper.proofs.Rings.{joined-sym}
use Rattle.paper.proofs.Nearest.{none-near-exactly}
use Rattle.paper.proofs.Playing.{Apart, Sound, after-append, after-length, bay-in, place_of-bay, place_of-there}
use Rattle.paper.proofs.Vacating.{Shiftable, plan-apart, shift_one, shift-cons, shift-shifts, vacate-vacates, path-shiftable}
use Rattle.paper.proofs.Actions.{eqb_comm, same-moves, then-split, cross-split, pulled}
use Rattle.paper.proofs.Shortest.{inward-head}
use Rattle.paper.proofs.Swapping.{Chain, way-tail, bring-brings, once-clears, clear-clears, way-second}
use Rattle.blocked.specs.Blocked.{Blocked}

-- ## A vacate leaves every bay occupied but the one that it vacates

-- where a carrier has crossed, all bays are occupied that were, but for the one left
move_in : (p : Placement) (c : Carrier) (a b : Bay) → c < length p → bay_of p c ≡ a → (z : Bay) → In z p → (z ≡ a → ⊥) → In z (move p (crossing c a b))
move_in p c a b h at_a z i n =
    let d = carrier_at p z in
    let there : d < length p = place_of-there p z i in
    let stands : bay_of p d ≡ z = place_of-bay p z i in
    let other : d ≡ c → ⊥ = λ e. n (sym stands ∙ ap (bay_of p) e ∙ at_a) in
    let same : bay_of (move p (crossing c a b)) d ≡ bay_of p d = get_or-set_other p c d b 0 other in
    rw (same ∙ stands) at (bay-in (move p (crossing c a b)) d (rw length-set there))

crossed-in : (p : Placement) (c : Carrier) (a b : Bay) → c < length p → In b (move p (crossing c a b))
crossed-in p c a b h = rw (get_or-set_same p c b 0 h) at (bay-in (move p (crossing c a b)) c (rw length-set h))

-- along a path each carrier but the first enters the bay of the next, which has left it
shift-fills : (Y : Yard) (p : Placement) (apart : Apart p) (a : Bay) (l : List Bay) → Shiftable Y p apart (a ∷ l)
    → (z : Bay) → In z p → (z ≡ a → ⊥) → In z (after p (shift p (a ∷ l)))
unfolding after
shift-fills Y p apart a [] h z i n = rw shift_one i
shift-fills Y p apart a (b ∷ l) h z i n =
    let q = after p (shift p (b ∷ l)) in
    let c = carrier_at p a in
    let there : c < length q = rw after-length (place_of-there p a h.0) in
    let stood : bay_of p c ≡ a = place_of-bay p a h.0 in
    let stands : bay_of q c ≡ a = (shift-shifts Y p apart b l h.3).keeps c (place_of-there p a h.0) (rw stood h.2) ∙ stood in
    rw (shift-cons, after-append)
    (by_cases (eqb z b)
    (λ e. rw (eqb-true z b e) (crossed-in q c a b there))
    (λ e. move_in q c a b there stands z (shift-fills Y p apart b l h.3 z i (eqb-false z b e)) n))

-- a path starts at its first bay
path-starts : (Y : Yard) (held : List Bay) (x e : Bay) → (l : List Bay) × (shortest_path Y held x e ≡ x ∷ l)
unfolding shortest_path
path-starts Y held x e = inward-head Y (rings Y held e) (ring_of Y x (rings Y held e)) x

-- what was occupied is so after a vacate, but for the bay vacated
vacate-fills : (Y : Yard) (held : List Bay) (x : Bay) (p : Placement) (m : Made) → Apart p → In x (up_to Y.bays) → vacate Y held x p ≡ some m
    → (z : Bay) → In z p → (z ≡ x → ⊥) → In z (after p m.moves)
unfolding vacate after
vacate-fills Y held x p m apart ix h z i n =
    by_cases (is_empty p x)
    (λ a. let none-moved : only [] ≡ m = let y = rw a at h in cc in rw (← none-moved) i)
    (λ a. by_cases (elem x held)
    (λ b. never-some m (rw (a, b) at h))
    (λ b. by-option (nearest_empty Y held p x)
    (λ c. never-some m (rw (a, b, c) at h))
    (λ e c.
    let same : record { moves = shift p (shortest_path Y held x e); parked = parking Y e } ≡ m = let y = rw (a, b, c) at h in cc in
    let s = path-shiftable Y held p apart x e (ix, b) c in
    let t = path-starts Y held x e in
    rw (← same, t.1) (shift-fills Y p apart x t.0 (rw t.1 at s) z i n))))

-- ## Behind v

module _ (Y : Yard) (sound : Sound Y) (v : Bay) (reached : Bay → Bool)
    (closed : (a b : Bay) → reached a ≡ true → joined Y a b ≡ true → (b ≡ v → ⊥) → reached b ≡ true) where
  -- a bay other than v that is not reached
  pub record Behind (z : Bay) : Type 0 where
    pub there : In z (up_to Y.bays)
    pub not-reached : reached z ≡ false
    pub not-v : z ≡ v → ⊥

  -- a rail from behind v leads to v or to behind it
  walled : (a b : Bay) → Behind a → joined Y a b ≡ true → (b ≡ v → ⊥) → Behind b
  walled a b h j n = record {
    there = sound.inside a b j;
    not-reached = by_cases (reached b) (λ e. not-both (closed b a e (joined-sym Y a b j) h.not-v) h.not-reached) (λ e. e);
    not-v = n;
  }

  beside-v : (z : Bay) → joined Y v z ≡ true → (Behind z → ⊥) → reached z ≡ true
  beside-v z j n =
      by_cases (reached z)
      (λ e. e)
      (λ e. absurd (n (record { there = sound.inside v z j; not-reached = e; not-v = λ q. sound.no_loop v (rw q at j) })))

  -- no bay behind v is empty
  abbrev Full : Placement → Type 0
  Full p = (z : Bay) → Behind z → In z p

  route-stays : (held : List Bay) → In v held → (a : Bay) (l : List Bay) (b : Bay) → Behind a → Route Y held a l b → Behind b
  route-stays held iv a [] b h r = rw (sym r) h
  route-stays held iv a (x ∷ l) b h r =
      route-stays held iv x l b (walled a x h r.0 (λ q. not-both (rw (sym q) at iv) r.1.1)) r.2

  -- a bay behind v cannot be vacated while v is held
  shut : (held : List Bay) (x : Bay) (p : Placement) → In v held → Full p → Behind x → vacate Y held x p ≡ none
  unfolding vacate
  shut held x p iv full h =
      let occupied : elem x p ≡ true = full x h in
      by_cases (elem x held)
      (λ e. rw (occupied, e))
      (λ e.
      let nowhere : nearest_empty Y held p x ≡ none =
      (none-near-exactly Y held p x (h.there, e)).1 (λ b m w. full b (route-stays held iv x w.rest b h w.route)) in
      rw (occupied, e, nowhere))

  vacated-not : (held : List Bay) (x : Bay) (p : Placement) (m : Made) → In v held → Full p → vacate Y held x p ≡ some m → Behind x → ⊥
  vacated-not held x p m iv full h b = never-some m (sym (shut held x p iv full b) ∙ h)

  vacate-full : (held : List Bay) (x : Bay) (p : Placement) (m : Made) → Apart p → In x (up_to Y.bays) → vacate Y held x p ≡ some m
      → Full p → (Behind x → ⊥) → Full (after p m.moves)
  vacate-full held x p m apart ix h full n z b =
      vacate-fills Y held x p m apart ix h z (full z b) (λ q. n (rw q at b))

  cross-full : (p : Placement) (c : Carrier) (a b : Bay) → c < length p → bay_of p c ≡ a → (Behind a → ⊥) → Full p → Full (move p (crossing c a b))
  cross-full p c a b h at_a n full z bz = move_in p c a b h at_a z (full z bz) (λ q. n (rw q at bz))

  -- ## Bring

  module _ (L M : Carrier) (differ : eqb L M ≡ false) where
    bring-full : (ahead : List Bay) (goal : Bay) (p : Placement) (m : Made) → Apart p → L < length p → M < length p
        → Chain Y (bay_of p L) ahead goal → joined Y (bay_of p M) (bay_of p L) ≡ true
        → (Behind (bay_of p L) → ⊥) → (Behind (bay_of p M) → ⊥) → Full p → bring Y L M ahead p ≡ some m
        → Full (after p m.moves) × (Behind (bay_of (after p m.moves) M) → ⊥)
    unfolding bring after
    bring-full [] goal p m apart hL hM ch j nL nM full h =
        let none-moved : only [] ≡ m = cc in rw (← none-moved) (full, nM)
    bring-full (x ∷ ahead) goal p m apart hL hM ch j nL nM full h =
        then-split (vacate Y (their_bays L M p) x) (cross L x then cross M (bay_of p L) then bring Y L M ahead) p m h
        (λ vacated m1 e h1 q1. cross-split L x (cross M (bay_of p L) then bring Y L M ahead) (after p vacated.moves) m1 h1
        (λ m2 h2 q2. cross-split M (bay_of p L) (bring Y L M ahead) _ m2 h2
        (λ more h3 q3.
        let u = bay_of p L in
        let w = bay_of p M in
        let held = their_bays L M p in
        let ms = vacated.moves in
        let ix = sound.inside u x ch.0 in
        let vac = vacate-vacates Y held x p vacated apart ix e in
        let nx : Behind x → ⊥ = λ b. by_cases (eqb u v)
        (λ k. let at_v : u ≡ v = eqb-true u v k in vacated-not held x p vacated (rw (← at_v) (In-head u (w ∷ []))) full e b)
        (λ k. nL (walled x u b (joined-sym Y u x ch.0) (eqb-false u v k))) in
        let q = after p ms in
        let full-q : Full q = vacate-full held x p vacated apart ix e full nx in
        let kL : bay_of q L ≡ u = vac.keeps L hL (In-head u (w ∷ [])) in
        let kM : bay_of q M ≡ w = vac.keeps M hM (In-tail w u (w ∷ []) (In-head w [])) in
        let pl = pulled Y L M differ u w x q (plan-apart Y p ms apart vac.legal) (rw after-length hL) (rw after-length hM) kL kM ch.0 j vac.empties in
        let full-1 : Full (move q (crossing L u x)) = cross-full q L u x (rw after-length hL) kL nL full-q in
        let full-2 : Full (move (move q (crossing L u x)) (crossing M w u)) =
        cross-full (move q (crossing L u x)) M w u (simp (length-set, after-length) hM) pl.second-bay nM full-1 in
        let ih = bring-full ahead goal (move (move q (crossing L u x)) (crossing M w u)) more pl.apart
        (simp (length-set, after-length) hL) (simp (length-set, after-length) hM)
        (rw pl.leader ch.1) (rw (pl.leader, pl.follower) ch.0) (rw pl.leader nx) (rw pl.follower nL) full-2 h3 in
        let all : m.moves ≡ ms ++ (crossing L u x ∷ crossing M w u ∷ more.moves) =
        let a1 = same-moves q1 in let a2 = same-moves q2 in let a3 = same-moves q3 in cc (kL, pl.second-bay) in
        rw (all, after-append) ih)))

  -- ## Clear

  -- none of the bays kept is behind v
  abbrev Before : List Bay → Type 0
  Before kept = (z : Bay) → In z kept → Behind z → ⊥

  pub record Still (p : Placement) (c : Cleared) : Type 0 where
    pub full : Full (after p c.made.moves)
    pub before : Before c.kept

  module _ (b : Bay) where
    clearing-still : (others kept : List Bay) (p : Placement) → Apart p → Full p → Before kept → ((z : Bay) → In z others → joined Y v z ≡ true)
        → Still p (clearing Y v b kept others p)
    unfolding clearing after
    clearing-still [] kept p apart full k g = record { full = full; before = k }
    clearing-still (x ∷ xs) kept p apart full k g =
        by_cases (leb 2 (length kept))
        (λ e. rw e (record { full = full; before = k }))
        (λ e. by-option (vacate Y (clearing_held v b kept) x p)
        (λ h. rw (e, h) (clearing-still xs kept p apart full k (λ z i. g z (In-tail z x xs i))))
        (λ m h.
        let ms = m.moves in
        let held = clearing_held v b kept in
        let ix = sound.inside v x (g x (In-head x xs)) in
        let vac = vacate-vacates Y held x p m apart ix h in
        let nx = vacated-not held x p m (In-head v (b ∷ kept)) full h in
        let r = clearing-still xs (kept ++ (x ∷ [])) (after p ms) (plan-apart Y p ms apart vac.legal) (vacate-full held x p m apart ix h full nx)
        (λ z i. In-append z kept (x ∷ []) i (λ y. k z y) (λ y. rw (In-one z x y) nx))
        (λ z i. g z (In-tail z x xs i)) in
        rw (e, h) (record { full = rw after-append r.full; before = r.before })))

    once-still : (p : Placement) → Apart p → Full p → Still p (clear_once Y v b p)
    unfolding clear_once neighbours
    once-still p apart full =
        let beside = filter (joined Y v) (up_to Y.bays) in
        let others = without (b ∷ []) beside in
        let kept = take 2 (filter (is_empty p) others) in
        clearing-still (without kept others) kept p apart full
        (λ z i h. not-both (full z h) (not-true (elem z p) (filter_passes (is_empty p) others z (take_in 2 (filter (is_empty p) others) z i))))
        (λ z i. filter_passes (joined Y v) (up_to Y.bays) z (without_in (b ∷ []) beside z (without_in kept others z i)))

  module _ (L M : Carrier) (differ : eqb L M ≡ false) (b : Bay) where
    abbrev pair-before : (x e : Bay) → (Behind x → ⊥) → (Behind e → ⊥) → Before (x ∷ e ∷ [])
    pair-before x e nx ne z i = In-cases z x (e ∷ []) i (λ q. rw q nx) (λ k. rw (In-one z e k) ne)

    aside-before : (e f x : Bay) (p : Placement) (m : Made) → Full p → aside Y v e f x p ≡ some m → Behind x → ⊥
    unfolding aside
    aside-before e f x p m full h =
        then-split (vacate Y (v ∷ e ∷ []) x) (vacate Y (v ∷ e ∷ x ∷ []) f) p m h
        (λ first_made second-made k l q. vacated-not (v ∷ e ∷ []) x p first_made (In-head v (e ∷ [])) full k)

    around-before : (e x : Bay) (p : Placement) (m : Made) → L < length p → M < length p → bay_of p L ≡ v → bay_of p M ≡ b → (Behind b → ⊥) → Full p
        → around Y L M v b e x p ≡ some m → Behind x → ⊥
    unfolding around
    around-before e x p m hL hM at_v at_b nb full h =
        cross-split L e (cross M v then aside Y v e b x then cross M b then cross L v) p m h
        (λ ks f q1. cross-split M v (aside Y v e b x then cross M b then cross L v) _ ks f
        (λ bs g q2. then-split (aside Y v e b x) (cross M b then cross L v) _ bs g
        (λ made cs k l q3.
        let q = move p (crossing L (bay_of p L) e) in
        let nv : Behind (bay_of p L) → ⊥ = λ h. h.not-v at_v in
        let full-q : Full q = cross-full p L (bay_of p L) e hL refl nv full in
        let still : bay_of q M ≡ b = get_or-set_other p L M e 0 (eqb-false M L (eqb_comm L M differ)) ∙ at_b in
        let full-f : Full (move q (crossing M (bay_of q M) v)) = cross-full q M (bay_of q M) v (rw length-set hM) refl (rw still nb) full-q in
        aside-before e b x (move q (crossing M (bay_of q M) v)) made full-f k)))

    going_before : (e : Bay) (p : Placement) (c : Cleared) → L < length p → M < length p → bay_of p L ≡ v → bay_of p M ≡ b → (Behind b → ⊥) → (Behind e → ⊥)
        → Full p → go_on Y L M v b e p ≡ some c → Before c.kept
    unfolding go_on first_kept neighbours
    going_before e p c hL hM at_v at_b nb ne full h =
        let others = without (b ∷ e ∷ []) (filter (joined Y v) (up_to Y.bays)) in
        either (first_kept Y (aside Y v b e) e others p) (first_kept Y (around Y L M v b e) e others p) h
        (λ f. first-of _ others f (λ x i d.
        let t = some-from (λ (m : Made). record { made = m; kept = x ∷ e ∷ [] }) (aside Y v b e x p) d in
        rw (← t.2) (pair-before x e (aside-before b e x p t.0 full t.1) ne)))
        (λ n f. first-of _ others f (λ x i d.
        let t = some-from (λ (m : Made). record { made = m; kept = x ∷ e ∷ [] }) (around Y L M v b e x p) d in
        rw (← t.2) (pair-before x e (around-before e x p t.0 hL hM at_v at_b nb full t.1) ne)))

    goes_before : (p : Placement) (m : Made) (kept : List Bay) → L < length p → M < length p → bay_of (after p m.moves) L ≡ v → bay_of (after p m.moves) M ≡ b
        → (Behind b → ⊥) → Still p (record { made = m; kept = kept }) → Before (gone_on Y L M v b p m kept).kept
    unfolding gone_on
    goes_before p m [] hL hM at_v at_b nb s = s.before
    goes_before p m (e ∷ []) hL hM at_v at_b nb s =
        by-option (go_on Y L M v b e (after p m.moves))
        (λ h. rw h s.before)
        (λ c h. rw h (going_before e (after p m.moves) c (rw after-length hL) (rw after-length hM) at_v at_b nb (s.before e (In-head e [])) s.full h))
    goes_before p m (x ∷ y ∷ rest) hL hM at_v at_b nb s = s.before

    clear-before : (p : Placement) → Apart p → L < length p → M < length p → bay_of p L ≡ v → bay_of p M ≡ b → (Behind b → ⊥) → Full p
        → Before (clear Y L M v b p).kept
    unfolding clear
    clear-before p apart hL hM at_v at_b nb full =
        let once = clear_once Y v b p in
        let c = once-clears Y sound v b p apart in
        goes_before p once.made once.kept hL hM
        (c.stays L hL (rw at_v (In-head v (b ∷ []))) ∙ at_v)
        (c.stays M hM (rw at_b (In-tail b v (b ∷ []) (In-head b []))) ∙ at_b)
        nb (once-still b p apart full)

-- ## The trial

-- with two bays kept there are three neighbours that are reached
finish-never : (Y : Yard) (L M : Carrier) (v b : Bay) (made : Made) (kept : List Bay) (m : Made) (P : Type 0)
    → ((x y : Bay) → In x kept → In y kept → (x ≡ y → ⊥) → P) → NoDup kept → finish Y L M v b made kept ≡ some m → P
unfolding finish
finish-never Y L M v b made [] m P f n h = never-some m h
finish-never Y L M v b made (x ∷ []) m P f n h = never-some m h
finish-never Y L M v b made (x ∷ y ∷ rest) m P f n h =
    f x y (In-head x (y ∷ rest)) (In-tail y x (y ∷ rest) (In-head y rest)) (Out-head x y rest n.0)

module _ (Y : Yard) (sound : Sound Y) (p : Placement) (u w v : Bay) (k : Blocked Y p u w v) where
  abbrev Back : Bay → Type 0
  Back z = Behind Y sound v k.reached k.closed z

  full-first : (z : Bay) → Back z → In z p
  full-first z h = by_cases (elem z p) (λ i. i) (λ o. not-both (k.empties z h.there o h.not-v) h.not-reached)

  first-not : Back u → ⊥
  first-not h = not-both (k.first h.not-v) h.not-reached

  second-not : Back w → ⊥
  second-not h = not-both (k.second h.not-v) h.not-reached

  led-fails : (L M : Carrier) (differ : eqb L M ≡ false) (ahead : List Bay) (m : Made) → Apart p → L < length p → M < length p
      → Chain Y (bay_of p L) ahead v → joined Y (bay_of p M) (bay_of p L) ≡ true → (Back (bay_of p L) → ⊥) → (Back (bay_of p M) → ⊥)
      → trial_led Y L M v ahead p ≡ some m → ⊥
  unfolding trial_led
  led-fails L M differ ahead m apart hL hM ch j nL nM h =
      by-option (bring Y L M ahead p)
      (λ e. never-some m (rw e at h))
      (λ made e.
      let br = bring-brings Y sound L M differ ahead v p made apart hL hM ch j e in
      let brought = made.moves in
      let p₁ = after p brought in
      let b = bay_of p₁ M in
      let jb = joined-sym Y b v br.follows in
      let still = bring-full Y sound v k.reached k.closed L M differ ahead v p made apart hL hM ch j nL nM full-first e in
      let apart₁ = plan-apart Y p brought apart br.legal in
      let cl = clear-clears Y sound L M differ v b p₁ (record {
        apart = apart₁;
        there = rw after-length hL;
        follows = rw after-length hM;
        at_v = br.leads;
        at_b = refl;
        beside = jb;
      }) in
      let c = clear Y L M v b p₁ in
      let before = clear-before Y sound v k.reached k.closed L M differ b p₁ apart₁ (rw after-length hL) (rw after-length hM) br.leads refl still.1 still.0 in
      let p₂ = after p₁ c.made.moves in
      let at_b : bay_of p₂ M ≡ b = cl.stays M (rw after-length hM) (In-tail b v (b ∷ []) (In-head b [])) in
      let hM₂ : M < length p₂ = simp (after-length) hM in
      let taken : In b p₂ = rw at_b at (bay-in p₂ M hM₂) in
      let other : (z : Bay) → In z c.kept → z ≡ b → ⊥ = λ z i q. not-both taken (rw q at (cl.kept_empty z i).1) in
      let is-reached : (z : Bay) → joined Y v z ≡ true → (Back z → ⊥) → k.reached z ≡ true = beside-v Y sound v k.reached k.closed in
      finish-never Y L M v b (together made c.made) c.kept m ⊥
      (λ x y ix iy n.
      let jx = (cl.kept_empty x ix).0 in
      let jy = (cl.kept_empty y iy).0 in
      k.few x y b n (other x ix) (other y iy) jx jy jb (is-reached x jx (before x ix)) (is-reached y jy (before y iy)) (is-reached b jb still.1))
      cl.nodup (rw e at h))

module _ (Y : Yard) (sound : Sound Y) (r s : Carrier) (differ : eqb r s ≡ false) (p : Placement) (apart : Apart p) (hr : r < length p) (hs : s < length p)
    (beside : joined Y (bay_of p r) (bay_of p s) ≡ true) where
  -- A trial at a blocked junction fails.
  pub blocked-fails : (v : Bay) → Way Y [] (bay_of p r) (shortest_path Y [] (bay_of p r) v) v → Blocked Y p (bay_of p r) (bay_of p s) v → trial Y r s v p ≡ none
  unfolding trial
  blocked-fails v way k =
      let u = bay_of p r in
      let w = bay_of p s in
      let path = shortest_path Y [] u v in
      let nu = first-not Y sound p u w v k in
      let nw = second-not Y sound p u w v k in
      by_cases (ltb 1 (length path) and eqb (get_or path 1 0) w)
      (λ e. rw e (by-option (trial_led Y s r v (drop 2 path) p)
      (λ n. n)
      (λ m h.
      let second : get_or path 1 0 ≡ w = eqb-true (get_or path 1 0) w (and_right _ _ e) in
      absurd (led-fails Y sound p u w v k s r (eqb_comm r s differ) (drop 2 path) m apart hs hr
      (rw second at (way-second Y [] u path v way (and_left _ _ e))) beside nw nu h))))
      (λ e. rw e (by-option (trial_led Y r s v (drop 1 path) p)
      (λ n. n)
      (λ m h.
      absurd (led-fails Y sound p u w v k r s differ (drop 1 path) m apart hr hs
      (way-tail Y [] u path v way) (joined-sym Y u w beside) nu nw h))))
