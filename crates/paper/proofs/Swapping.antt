-- After a swap exactly r and s have traded places. Bring and clear are some legal list; the exchange trades the two where they
-- stand; and the undo is that list reversed with the two names traded, so it leads everybody else back.
use mathlib.Core.Path.{◌≡◌, refl, sym, ◌∙◌, ap}
use mathlib.Core.Bool.{true, false, not}
use mathlib.Core.List.{List, [], ◌∷◌, ◌++◌, append_assoc}
use mathlib.Core.Option.{some}
use Prim.Native.Nat.{◌<◌, min, max}
use native.Mathlib.Omega.{arith}
use lib.Dec.{eqb, leb, ltb}
use lib.ListN.{length, get_or, take, drop, length-set}
use lib.Seq.{ext_get_or}
use borrow.Author.Tests.{not-true, ltb-true, ltb-false, eqb-true, eqb-false}
use Rattle.paper.specs.Basics.{◌and◌, filter, elem, without, up_to, In, Out, NoDup}
use Rattle.paper.specs.Yard.{Bay, Carrier, Yard, Placement, Crossing, crossing, bay_of, is_empty, move, after, joined, legal, legal_plan, neighbours, junction}
use Rattle.paper.specs.Path.{nearest_first, shortest_path, Free, Route, Way}
use Rattle.paper.specs.Procedure.{Made, only, together, ◌then◌, cross, exchange, traded, undo, Cleared, following, vacate, bring, clearing, clear_once, aside, around, first_kept, go_on, gone_on, clear, finish, trial_led, trial, swap, clearing_held, their_bays}
use Rattle.paper.proofs.Tests.{by_cases, by-option, either, some-from, not-both, never-some, and_left, and_right}
use Rattle.paper.proofs.Members.{first-of, nothing-in-nil, In-head, In-tail, In-cases, In-one, In-append, Out-head, nodup-left, nodup-drop, nodup_append, nodup-filter, nodup-take, nodup-count, take_in, filter-in, filter_passes, without_in, without-out, out-cons, Out-tail}
use Rattle.paper.proofs.Rings.{joined-sym, reached-sym, walk-free, reached-walk}
use Rattle.paper.proofs.Shortest.{shortest-path}
use Rattle.paper.proofs.Playing.{Apart, Legal, legal-of, after-append, after-length, plan-append, bay-in, move-self, move-other, move-apart, move-empties, move-out, Sound}
use Rattle.paper.proofs.Vacating.{plan-apart, vacate-vacates}
use Rattle.paper.proofs.Actions.{eqb_comm, same-moves, then-split, cross-split, Pulled, pulled}
use Rattle.paper.proofs.GoingOn.{two-held, Attempted, aside-empties, around-empties}
use Rattle.paper.proofs.Trading.{traded-length, traded-bay, trade-first, trade-second, trade-other, which, undo-undoes}

-- Where the two carriers stand, a at the first's bay and b at the second's, with c and d empty, and nobody else moved since p₀.
pub record Duo (L M : Carrier) (p₀ p : Placement) (a b c d : Bay) : Type 0 where
  pub len : length p ≡ length p₀
  pub apart : Apart p
  pub first : bay_of p L ≡ a
  pub second : bay_of p M ≡ b
  pub free : Out c p
  pub spare : Out d p
  pub rest : (k : Carrier) → eqb k L ≡ false → eqb k M ≡ false → bay_of p k ≡ bay_of p₀ k

module _ (L M : Carrier) (differ : eqb L M ≡ false) (p₀ : Placement) (hL : L < length p₀) (hM : M < length p₀) where
  -- whoever has the two traded, and all others in place, is the traded placement
  is-traded : (p : Placement) → length p ≡ length p₀ → bay_of p L ≡ bay_of p₀ M → bay_of p M ≡ bay_of p₀ L
      → ((k : Carrier) → eqb k L ≡ false → eqb k M ≡ false → bay_of p k ≡ bay_of p₀ k) → p ≡ traded L M p₀
  is-traded p len f g rest =
      ext_get_or 0 p (traded L M p₀) (len ∙ sym (traded-length L M p₀))
      (λ c h. sym (traded-bay L M p₀ hL hM c ∙
      which L M c
      (λ q. rw (q, trade-first L M) (sym f))
      (λ q. rw (q, trade-second L M) (sym g))
      (λ u v. rw (trade-other L M c u v) (sym (rest c u v)))))

module _ (Y : Yard) (L M : Carrier) (differ : eqb L M ≡ false) (p₀ : Placement) (hL : L < length p₀) (hM : M < length p₀) where
  turn : {p : Placement} {a b c d : Bay} → Duo L M p₀ p a b c d → Duo L M p₀ p a b d c
  turn s = record { len = s.len; apart = s.apart; first = s.first; second = s.second; free = s.spare; spare = s.free; rest = s.rest }

  first_goes : (p : Placement) (a b c d : Bay) → Duo L M p₀ p a b c d → joined Y a c ≡ true → (d ≡ c → ⊥)
      → (legal Y p (crossing L a c) ≡ true) × Duo L M p₀ (move p (crossing L a c)) c b a d
  first_goes p a b c d s j n =
      let x = crossing L a c in
      let l : Legal Y p x = record { there = omega (arith, s.len); stands = s.first; rail = j; free = s.free } in (
        legal-of Y p x l,
        record {
          len = length-set p L c ∙ s.len;
          apart = move-apart Y p x l s.apart;
          first = move-self Y p x l;
          second = move-other Y p x l M (eqb_comm L M differ) ∙ s.second;
          free = move-empties Y p x l s.apart;
          spare = move-out Y p x l d s.spare n;
          rest = λ k u v. move-other Y p x l k u ∙ s.rest k u v;
        },
      )

  second-goes : (p : Placement) (a b c d : Bay) → Duo L M p₀ p a b c d → joined Y b c ≡ true → (d ≡ c → ⊥)
      → (legal Y p (crossing M b c) ≡ true) × Duo L M p₀ (move p (crossing M b c)) a c b d
  second-goes p a b c d s j n =
      let x = crossing M b c in
      let l : Legal Y p x = record { there = omega (arith, s.len); stands = s.second; rail = j; free = s.free } in (
        legal-of Y p x l,
        record {
          len = length-set p M c ∙ s.len;
          apart = move-apart Y p x l s.apart;
          first = move-other Y p x l L differ ∙ s.first;
          second = move-self Y p x l;
          free = move-empties Y p x l s.apart;
          spare = move-out Y p x l d s.spare n;
          rest = λ k u v. move-other Y p x l k v ∙ s.rest k u v;
        },
      )

  -- 3. Exchange: legal, and the two have traded places.
  pub exchange-trades : (v b x y : Bay) → Duo L M p₀ p₀ v b x y → joined Y v x ≡ true → joined Y v y ≡ true → joined Y v b ≡ true → (x ≡ y → ⊥)
      → (legal_plan Y p₀ (exchange L M v b x y) ≡ true) × (after p₀ (exchange L M v b x y) ≡ traded L M p₀)
  unfolding exchange after legal_plan
  exchange-trades v b x y s jx jy jb n =
      let at-L : In v p₀ = rw s.first at (bay-in p₀ L hL) in
      let at-M : In b p₀ = rw s.second at (bay-in p₀ M hM) in
      let occ : (z w : Bay) → In z p₀ → Out w p₀ → w ≡ z → ⊥ = λ z w i o q. not-both i (rw q at o) in
      let vb : b ≡ v → ⊥ = λ q. eqb-false L M differ (s.apart L M hL hM (s.first ∙ sym q ∙ sym s.second)) in
      let s1 = first_goes p₀ v b x y s jx (λ q. n (sym q)) in
      let s2 = second-goes _ x b v y s1.1 (joined-sym Y v b jb) (occ v y at-L s.spare) in
      let s3 = second-goes _ x v y b (turn s2.1) jy (λ q. occ b y at-M s.spare (sym q)) in
      let s4 = first_goes _ x y v b s3.1 (joined-sym Y v x jx) vb in
      let s5 = first_goes _ v y b x (turn s4.1) jb (occ b x at-M s.free) in
      let s6 = second-goes _ b y v x s5.1 (joined-sym Y v y jy) (occ v x at-L s.free) in (
        rw (s1.0, s2.0, s3.0, s4.0, s5.0, s6.0),
        is-traded L M differ p₀ hL hM _ s6.1.len (s6.1.first ∙ sym s.second) (s6.1.second ∙ sym s.first) s6.1.rest,
      )

-- from u, a rail to each bay of the list in turn, and the last is v
abbrev pub Chain : Yard → Bay → List Bay → Bay → Type 0
Chain Y u [] v = u ≡ v
Chain Y u (x ∷ xs) v = (joined Y u x ≡ true) × Chain Y x xs v

route-chain : (Y : Yard) (held : List Bay) (u : Bay) (l : List Bay) (v : Bay) → Route Y held u l v → Chain Y u l v
route-chain Y held u [] v r = r
route-chain Y held u (x ∷ xs) v r = (r.0, route-chain Y held x xs v r.2)

-- the bays ahead on a way: after its first bay, and after its second
pub way-tail : (Y : Yard) (held : List Bay) (u : Bay) (l : List Bay) (v : Bay) → Way Y held u l v → Chain Y u (drop 1 l) v
way-tail Y held u l v w = rw w.starts (route-chain Y held u w.rest v w.route)

route-second : (Y : Yard) (held : List Bay) (u : Bay) (l : List Bay) (v : Bay) → Route Y held u l v → ltb 1 (length (u ∷ l)) ≡ true
    → Chain Y (get_or (u ∷ l) 1 0) (drop 2 (u ∷ l)) v
route-second Y held u [] v r h = not-both h refl
route-second Y held u (x ∷ xs) v r h = route-chain Y held x xs v r.2

pub way-second : (Y : Yard) (held : List Bay) (u : Bay) (l : List Bay) (v : Bay) → Way Y held u l v → ltb 1 (length l) ≡ true → Chain Y (get_or l 1 0) (drop 2 l) v
way-second Y held u l v w h = rw w.starts (route-second Y held u w.rest v w.route (rw w.starts at h))

module _ (Y : Yard) (sound : Sound Y) (L M : Carrier) (differ : eqb L M ≡ false) where
  pub record Brought (v : Bay) (p : Placement) (xs : List Crossing) : Type 0 where
    pub legal : legal_plan Y p xs ≡ true
    pub leads : bay_of (after p xs) L ≡ v
    pub follows : joined Y (bay_of (after p xs) M) v ≡ true

  -- crossings, the two that pull, and then what brings the rest of the way
  brought-more : (u w x v : Bay) (p : Placement) (ms rest : List Crossing) → legal_plan Y p ms ≡ true → Pulled Y L M differ u w x (after p ms)
      → Brought v (move (move (after p ms) (crossing L u x)) (crossing M w u)) rest
      → Brought v p (ms ++ (crossing L u x ∷ crossing M w u ∷ rest))
  unfolding after
  brought-more u w x v p ms rest h pl b =
      let c = crossing L u x in
      let d = crossing M w u in
      record {
        legal = plan-append Y p ms (c ∷ d ∷ rest) h (plan-append Y (after p ms) (c ∷ d ∷ []) rest pl.both-legal b.legal);
        leads = rw after-append b.leads;
        follows = rw after-append b.follows;
      }

  -- 1. Bring: legal, the leader ends at v and the follower beside it.
  pub bring-brings : (ahead : List Bay) (v : Bay) (p : Placement) (m : Made) → Apart p → L < length p → M < length p
      → Chain Y (bay_of p L) ahead v → joined Y (bay_of p M) (bay_of p L) ≡ true → bring Y L M ahead p ≡ some m → Brought v p m.moves
  unfolding bring after legal_plan
  bring-brings [] v p m apart hL hM ch j h =
      let none-moved : only [] ≡ m = cc in
      rw (← none-moved) (record { legal = refl; leads = ch; follows = rw ch at j })
  bring-brings (x ∷ ahead) v p m apart hL hM ch j h =
      then-split (vacate Y (their_bays L M p) x) (cross L x then cross M (bay_of p L) then bring Y L M ahead) p m h
      (λ vacated m1 e h1 q1. cross-split L x (cross M (bay_of p L) then bring Y L M ahead) (after p vacated.moves) m1 h1
      (λ m2 h2 q2. cross-split M (bay_of p L) (bring Y L M ahead) _ m2 h2
      (λ more h3 q3.
      let held = their_bays L M p in
      let ms = vacated.moves in
      let rest = more.moves in
      let vac = vacate-vacates Y held x p vacated apart (sound.inside (bay_of p L) x ch.0) e in
      let kL : bay_of (after p ms) L ≡ bay_of p L = vac.keeps L hL (In-head (bay_of p L) (bay_of p M ∷ [])) in
      let kM : bay_of (after p ms) M ≡ bay_of p M = vac.keeps M hM (In-tail (bay_of p M) (bay_of p L) (bay_of p M ∷ []) (In-head (bay_of p M) [])) in
      let pl = pulled Y L M differ (bay_of p L) (bay_of p M) x (after p ms) (plan-apart Y p ms apart vac.legal) (rw after-length hL) (rw after-length hM)
      kL kM ch.0 j vac.empties in
      let ih = bring-brings ahead v (move (move (after p ms) (crossing L (bay_of p L) x)) (crossing M (bay_of p M) (bay_of p L))) more pl.apart
      (simp (length-set, after-length) hL) (simp (length-set, after-length) hM)
      (rw pl.leader ch.1) (rw (pl.leader, pl.follower) ch.0) h3 in
      let all : m.moves ≡ ms ++ (crossing L (bay_of p L) x ∷ crossing M (bay_of p M) (bay_of p L) ∷ rest) =
      let a1 = same-moves q1 in let a2 = same-moves q2 in let a3 = same-moves q3 in cc (kL, pl.second-bay) in
      rw all (brought-more (bay_of p L) (bay_of p M) x v p ms rest vac.legal pl ih))))

module _ (Y : Yard) (sound : Sound Y) where
  -- What clearing around v leaves: legal crossings; nobody at v or b has moved; the bays kept are empty neighbours of v, none twice.
  pub record ClearedIs (v b : Bay) (p : Placement) (c : Cleared) : Type 0 where
    pub legal : legal_plan Y p c.made.moves ≡ true
    pub stays : (k : Carrier) → k < length p → In (bay_of p k) (v ∷ b ∷ []) → bay_of (after p c.made.moves) k ≡ bay_of p k
    pub kept_empty : (z : Bay) → In z c.kept → (joined Y v z ≡ true) × Out z (after p c.made.moves)
    pub nodup : NoDup c.kept

  module _ (v b : Bay) where
    as-kept : (p : Placement) (kept : List Bay) → NoDup kept → ((z : Bay) → In z kept → (joined Y v z ≡ true) × Out z p)
        → ClearedIs v b p (record { made = only []; kept = kept })
    unfolding after legal_plan
    as-kept p kept n f = record { legal = refl; stays = λ k h i. refl; kept_empty = f; nodup = n }

    -- crossings that leave those at v and b in place, and then what clears
    cleared-then : (p : Placement) (m : Made) (c : Cleared) → legal_plan Y p m.moves ≡ true
        → ((k : Carrier) → k < length p → In (bay_of p k) (v ∷ b ∷ []) → bay_of (after p m.moves) k ≡ bay_of p k)
        → ClearedIs v b (after p m.moves) c → ClearedIs v b p (following m c)
    cleared-then p m c l s r = record {
      legal = plan-append Y p m.moves c.made.moves l r.legal;
      stays = λ k h i.
          let first : bay_of (after p m.moves) k ≡ bay_of p k = s k h i in
          rw after-append (r.stays k (rw after-length h) (rw first i) ∙ first);
      kept_empty = λ z i. let t = r.kept_empty z i in (t.0, rw after-append t.1);
      nodup = r.nodup;
    }

    clearing-clears : (others kept : List Bay) (p : Placement) → Apart p → NoDup (kept ++ others)
        → ((z : Bay) → In z kept → (joined Y v z ≡ true) × Out z p) → ((z : Bay) → In z others → joined Y v z ≡ true)
        → ClearedIs v b p (clearing Y v b kept others p)
    unfolding clearing
    clearing-clears [] kept p apart n f g = as-kept p kept (nodup-left kept [] n) f
    clearing-clears (x ∷ xs) kept p apart n f g =
        by_cases (leb 2 (length kept))
        (λ e. rw e (as-kept p kept (nodup-left kept (x ∷ xs) n) f))
        (λ e. by-option (vacate Y (clearing_held v b kept) x p)
        (λ h. rw (e, h) (clearing-clears xs kept p apart (nodup-drop kept x xs n) f (λ z i. g z (In-tail z x xs i))))
        (λ m h.
        let ms = m.moves in
        let vac = vacate-vacates Y (clearing_held v b kept) x p m apart (sound.inside v x (g x (In-head x xs))) h in
        rw (e, h) (cleared-then p m (clearing Y v b (kept ++ (x ∷ [])) xs (after p ms)) vac.legal
        (λ k l i. vac.keeps k l (two-held (bay_of p k) v b kept i))
        (clearing-clears xs (kept ++ (x ∷ [])) (after p ms) (plan-apart Y p ms apart vac.legal) (rw append_assoc n)
        (λ z i. In-append z kept (x ∷ []) i
        (λ k. ((f z k).0, vac.spares z (In-tail z v (b ∷ kept) (In-tail z b kept k)) (f z k).1))
        (λ k. rw (In-one z x k) (g x (In-head x xs), vac.empties)))
        (λ z i. g z (In-tail z x xs i))))))

    -- 2. Clear, once through the neighbours.
    pub once-clears : (p : Placement) → Apart p → ClearedIs v b p (clear_once Y v b p)
    unfolding clear_once neighbours without
    once-clears p apart =
        let around = filter (λ y. not (elem y (b ∷ []))) (filter (joined Y v) (up_to Y.bays)) in
        let kept = take 2 (filter (is_empty p) around) in
        let joins : (z : Bay) → In z around → joined Y v z ≡ true =
        λ z i. filter_passes (joined Y v) (up_to Y.bays) z (filter-in _ (filter (joined Y v) (up_to Y.bays)) z i) in
        let n : NoDup around = nodup-filter _ (filter (joined Y v) (up_to Y.bays)) (nodup-filter (joined Y v) (up_to Y.bays) (nodup-count 0 Y.bays)) in
        clearing-clears (filter (λ y. not (elem y kept)) around) kept p apart
        (nodup_append kept _ (nodup-take 2 (filter (is_empty p) around) (nodup-filter (is_empty p) around n)) (nodup-filter _ around n)
        (λ z i. by_cases (elem z (filter (λ y. not (elem y kept)) around)) (λ k. not-both i (not-true (elem z kept) (filter_passes (λ y. not (elem y kept)) around z k))) (λ o. o)))
        (λ z i.
        let j = take_in 2 (filter (is_empty p) around) z i in
        (joins z (filter-in (is_empty p) around z j), not-true (elem z p) (filter_passes (is_empty p) around z j)))
        (λ z i. joins z (filter-in _ around z i))

  module _ (L M : Carrier) (differ : eqb L M ≡ false) (v b : Bay) where
    -- The leader stands at v and the follower at b, beside it.
    pub record Stand (p : Placement) : Type 0 where
      pub apart : Apart p
      pub there : L < length p
      pub follows : M < length p
      pub at_v : bay_of p L ≡ v
      pub at_b : bay_of p M ≡ b
      pub beside : joined Y v b ≡ true

    kept-with : (e x : Bay) (p : Placement) (m : Made) → joined Y v e ≡ true → joined Y v x ≡ true → (x ≡ e → ⊥) → Attempted Y v b e x p m.moves
        → ClearedIs v b p (record { made = m; kept = x ∷ e ∷ [] })
    kept-with e x p m ve vx n a = record {
      legal = a.legal;
      stays = a.stays;
      kept_empty = λ z i. In-cases z x (e ∷ []) i (λ q. rw q (vx, a.empties)) (λ k. rw (In-one z e k) (ve, a.empties-kept));
      nodup = (out-cons x e [] n (nothing-in-nil x), (nothing-in-nil e, tt));
    }

    -- going on from where clearing ended, with e kept
    going_on : (e : Bay) (p : Placement) (c : Cleared) → Stand p → joined Y v e ≡ true → Out e p → go_on Y L M v b e p ≡ some c → ClearedIs v b p c
    unfolding go_on first_kept neighbours
    going_on e p c s ve o h =
        let others = without (b ∷ e ∷ []) (filter (joined Y v) (up_to Y.bays)) in
        let joins : (x : Bay) → In x others → joined Y v x ≡ true =
        λ x i. filter_passes (joined Y v) (up_to Y.bays) x (without_in (b ∷ e ∷ []) (filter (joined Y v) (up_to Y.bays)) x i) in
        let other : (x : Bay) → In x others → Out x (b ∷ e ∷ []) = λ x i. without-out (b ∷ e ∷ []) (filter (joined Y v) (up_to Y.bays)) x i in
        let not-e : (x : Bay) → In x others → x ≡ e → ⊥ = λ x i. Out-head x e [] (Out-tail x b (e ∷ []) (other x i)) in
        either (first_kept Y (aside Y v b e) e others p) (first_kept Y (around Y L M v b e) e others p) h
        (λ f. first-of _ others f (λ x i d.
        let t = some-from (λ (m : Made). record { made = m; kept = x ∷ e ∷ [] }) (aside Y v b e x p) d in
        rw (← t.2) (kept-with e x p t.0 ve (joins x i) (not-e x i)
        (aside-empties Y v b e x p t.0 s.apart (sound.inside v x (joins x i)) (sound.inside v e ve) t.1))))
        (λ n f. first-of _ others f (λ x i d.
        let t = some-from (λ (m : Made). record { made = m; kept = x ∷ e ∷ [] }) (around Y L M v b e x p) d in
        rw (← t.2) (kept-with e x p t.0 ve (joins x i) (not-e x i)
        (around-empties Y sound L M differ v b e x p s.apart s.there s.follows s.at_v s.at_b ve s.beside (joins x i) o
        (Out-head x b (e ∷ []) (other x i)) t.0 t.1))))

    goes_on : (p : Placement) (m : Made) (kept : List Bay) → Stand p → ClearedIs v b p (record { made = m; kept = kept })
        → ClearedIs v b p (gone_on Y L M v b p m kept)
    unfolding gone_on
    goes_on p m [] s r = r
    goes_on p m (e ∷ []) s r =
        let made = m.moves in
        let k = r.kept_empty e (In-head e []) in
        let stand : Stand (after p made) = record {
          apart = plan-apart Y p made s.apart r.legal;
          there = rw after-length s.there;
          follows = rw after-length s.follows;
          at_v = r.stays L s.there (rw s.at_v (In-head v (b ∷ []))) ∙ s.at_v;
          at_b = r.stays M s.follows (rw s.at_b (In-tail b v (b ∷ []) (In-head b []))) ∙ s.at_b;
          beside = s.beside;
        } in
        by-option (go_on Y L M v b e (after p made))
        (λ h. rw h r)
        (λ c h. rw h (cleared-then v b p m c r.legal r.stays (going_on e (after p made) c stand k.0 k.1 h)))
    goes_on p m (x ∷ y ∷ rest) s r = r

    -- 2. Clear.
    pub clear-clears : (p : Placement) → Stand p → ClearedIs v b p (clear Y L M v b p)
    unfolding clear
    clear-clears p s = let once = clear_once Y v b p in goes_on p once.made once.kept s (once-clears v b p s.apart)

-- legal, and then the two have traded places
abbrev pub Trades : Yard → Carrier → Carrier → Placement → List Crossing → Type 0
Trades Y L M p xs = (legal_plan Y p xs ≡ true) × (after p xs ≡ traded L M p)

module _ (Y : Yard) (sound : Sound Y) (L M : Carrier) (differ : eqb L M ≡ false) where
  -- what is done, then an exchange, then the undoing
  there_and_back : (v b x y : Bay) (p : Placement) (done : List Crossing) → Apart p → L < length p → M < length p → legal_plan Y p done ≡ true
      → bay_of (after p done) L ≡ v → bay_of (after p done) M ≡ b → joined Y v b ≡ true
      → (joined Y v x ≡ true) × Out x (after p done) → (joined Y v y ≡ true) × Out y (after p done) → (x ≡ y → ⊥)
      → Trades Y L M p (done ++ exchange L M v b x y ++ undo L M done)
  there_and_back v b x y p done apart hL hM l at-L at-M jb fx fy n =
      let q = after p done in
      let a : Apart q = plan-apart Y p done apart l in
      let ex = exchange-trades Y L M differ q (rw after-length hL) (rw after-length hM) v b x y
      (record { len = refl; apart = a; first = at-L; second = at-M; free = fx.1; spare = fy.1; rest = λ k u w. refl })
      fx.0 fy.0 jb n in
      let un = undo-undoes Y L M p apart hL hM done l in
      let e : after p (done ++ exchange L M v b x y) ≡ traded L M q = after-append p done (exchange L M v b x y) ∙ ex.1 in (
        plan-append Y p (done ++ exchange L M v b x y) (undo L M done) (plan-append Y p done (exchange L M v b x y) l ex.0) (rw e un.0),
        after-append p (done ++ exchange L M v b x y) (undo L M done) ∙ ap (λ r. after r (undo L M done)) e ∙ un.1,
      )

  finish-trades : (v b : Bay) (p : Placement) (made : Made) (kept : List Bay) (m : Made) → Apart p → L < length p → M < length p
      → legal_plan Y p made.moves ≡ true → bay_of (after p made.moves) L ≡ v → bay_of (after p made.moves) M ≡ b → joined Y v b ≡ true
      → ((z : Bay) → In z kept → (joined Y v z ≡ true) × Out z (after p made.moves)) → NoDup kept
      → finish Y L M v b made kept ≡ some m → Trades Y L M p m.moves
  unfolding finish
  finish-trades v b p made [] m apart hL hM l at-L at-M jb f n h = never-some m h
  finish-trades v b p made (x ∷ []) m apart hL hM l at-L at-M jb f n h = never-some m h
  finish-trades v b p made (x ∷ y ∷ rest) m apart hL hM l at-L at-M jb f n h =
      let done = made.moves in
      let differ-xy : x ≡ y → ⊥ = Out-head x y rest n.0 in
      let fx = f x (In-head x (y ∷ rest)) in
      let fy = f y (In-tail y x (y ∷ rest) (In-head y rest)) in
      let whole : record { moves = done ++ exchange L M v b (min x y) (max x y) ++ undo L M done; parked = made.parked } ≡ m = cc in
      let same : done ++ exchange L M v b (min x y) (max x y) ++ undo L M done ≡ m.moves = same-moves whole in
      by_cases (ltb x y)
      (λ e.
      let lo : min x y ≡ x = omega (arith, ltb-true x y e) in
      let hi : max x y ≡ y = omega (arith, ltb-true x y e) in
      rw (← same, lo, hi) (there_and_back v b x y p done apart hL hM l at-L at-M jb fx fy differ-xy))
      (λ e.
      let lo : min x y ≡ y = omega (arith, ltb-false x y e) in
      let hi : max x y ≡ x = omega (arith, ltb-false x y e) in
      rw (← same, lo, hi) (there_and_back v b y x p done apart hL hM l at-L at-M jb fy fx (λ q. differ-xy (sym q))))

  trial-with : (v : Bay) (ahead : List Bay) (p : Placement) (m : Made) → Apart p → L < length p → M < length p
      → Chain Y (bay_of p L) ahead v → joined Y (bay_of p M) (bay_of p L) ≡ true → trial_led Y L M v ahead p ≡ some m → Trades Y L M p m.moves
  unfolding trial_led
  trial-with v ahead p m apart hL hM ch j h =
      by-option (bring Y L M ahead p)
      (λ e. never-some m (rw e at h))
      (λ made e.
      let br = bring-brings Y sound L M differ ahead v p made apart hL hM ch j e in
      let brought = made.moves in
      let p₁ = after p brought in
      let b = bay_of p₁ M in
      let cl = clear-clears Y sound L M differ v b p₁ (record {
        apart = plan-apart Y p brought apart br.legal;
        there = rw after-length hL;
        follows = rw after-length hM;
        at_v = br.leads;
        at_b = refl;
        beside = joined-sym Y b v br.follows;
      }) in
      let c = clear Y L M v b p₁ in
      let at-L : bay_of (after p (brought ++ c.made.moves)) L ≡ v =
      rw after-append (cl.stays L (rw after-length hL) (rw br.leads (In-head v (b ∷ []))) ∙ br.leads) in
      let at-M : bay_of (after p (brought ++ c.made.moves)) M ≡ b =
      rw after-append (cl.stays M (rw after-length hM) (In-tail b v (b ∷ []) (In-head b []))) in
      finish-trades v b p (together made c.made) c.kept m apart hL hM
      (plan-append Y p brought c.made.moves br.legal cl.legal) at-L at-M (joined-sym Y b v br.follows)
      (λ z i. let t = cl.kept_empty z i in (t.0, rw after-append t.1)) cl.nodup (rw e at h))

-- which of the two is named first makes no difference
pub traded-comm : (L M : Carrier) (p : Placement) → eqb L M ≡ false → L < length p → M < length p → traded M L p ≡ traded L M p
traded-comm L M p differ hL hM =
    is-traded L M differ p hL hM (traded M L p) (traded-length M L p)
    (traded-bay M L p hM hL L ∙ ap (bay_of p) (trade-second M L))
    (traded-bay M L p hM hL M ∙ ap (bay_of p) (trade-first M L))
    (λ k u v. traded-bay M L p hM hL k ∙ ap (bay_of p) (trade-other M L k v u))

module _ (Y : Yard) (sound : Sound Y) (r s : Carrier) (differ : eqb r s ≡ false) (p : Placement) (apart : Apart p) (hr : r < length p) (hs : s < length p)
    (beside : joined Y (bay_of p r) (bay_of p s) ≡ true) where
  trial-trades : (v : Bay) (m : Made) → Way Y [] (bay_of p r) (shortest_path Y [] (bay_of p r) v) v → trial Y r s v p ≡ some m → Trades Y r s p m.moves
  unfolding trial
  trial-trades v m l h =
      let path = shortest_path Y [] (bay_of p r) v in
      by_cases (ltb 1 (length path) and eqb (get_or path 1 0) (bay_of p s))
      (λ e.
      let second : get_or path 1 0 ≡ bay_of p s = eqb-true (get_or path 1 0) (bay_of p s) (and_right _ _ e) in
      let t = trial-with Y sound s r (eqb_comm r s differ) v (drop 2 path) p m apart hs hr
      (rw second at (way-second Y [] (bay_of p r) path v l (and_left _ _ e))) beside (rw e at h) in
      (t.0, t.1 ∙ traded-comm r s p differ hr hs))
      (λ e. trial-with Y sound r s differ v (drop 1 path) p m apart hr hs (way-tail Y [] (bay_of p r) path v l) (joined-sym Y (bay_of p r) (bay_of p s) beside) (rw e at h))

  -- A swap is legal, and r and s have traded places.
  pub swap-trades : (m : Made) → In (bay_of p r) (up_to Y.bays) → swap Y r s p ≡ some m → Trades Y r s p m.moves
  unfolding swap
  swap-trades m i h =
      first-of (λ v. trial Y r s v p) (filter (junction Y) (nearest_first Y [] (bay_of p r))) h
      (λ v k e.
      let here : Free Y [] (bay_of p r) = (i, nothing-in-nil (bay_of p r)) in
      let far = filter-in (junction Y) (nearest_first Y [] (bay_of p r)) v k in
      let there : Free Y [] v = walk-free Y [] here (reached-walk Y [] (bay_of p r) v far).2 in
      trial-trades v m (shortest-path Y [] (bay_of p r) v here there (reached-sym Y [] (bay_of p r) v here far)).way e)
