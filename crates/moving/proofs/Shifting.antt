-- Once the carriers ahead have moved on, the next bay is empty, and the carrier behind them has not moved: so it is the same carrier that
-- crosses, and the whole is the paper's shift. Of all bays only the path's two ends change between empty and occupied.
-- Assumes nothing.
use mathlib.Core.Path.{◌≡◌, refl, sym, ap, ◌∙◌}
use mathlib.Core.Bool.{Bool, true, false, not}
use mathlib.Core.List.{List, [], ◌∷◌}
use Prim.Native.Nat.{ℕ, zero, suc, ◌+◌, ◌-◌, ◌^◌, ◌≤◌, ◌<◌}
use native.Mathlib.Decide.{ℕ_discrete}
use native.Mathlib.Omega.{arith}
use lib.Dec.{eqb}
use lib.ListN.{length, get_or, drop, set, length-append, length-set, length-drop}
use lib.Seq.{drop-cons, drop-length, get_or-set_other, set-set, set-get_or}
use borrow.Author.Tests.{eqb-true, eq-eqb, ne_eqb}
use Rattle.paper.specs.Basics.{◌and◌, ◌or◌, elem, In, Out}
use Rattle.paper.specs.Yard.{Bay, Yard, Placement, crossing, bay_of, carrier_at, is_empty, after}
use Rattle.paper.specs.Procedure.{shift}
use Rattle.paper.proofs.Members.{In-head, In-tail, Out-head}
use Rattle.paper.proofs.Playing.{Apart, after-append, after-length, place_of-bay, place_of-there, bay-in}
use Rattle.paper.proofs.Tests.{not-both}
use Rattle.paper.proofs.Vacating.{Shiftable, plan-apart, shift-shifts, shift-cons, shift_one}
use Rattle.words.specs.Sets.{mem}
use Rattle.moving.specs.Placed.{Placed, Played, MovedOn, CanShift}
use Rattle.moving.proofs.Playing.{Told, told-then, Stood, stood, placed_of, played-none, stored_exact, neither, carrier-is, carrier-none, crossed-empty, crossed-stood}

pub shift_none : (n : ℕ) (p standing empty out path : List ℕ) (at : ℕ) → length path < 2 → Placed n p standing empty
    → Played (shift p path) n p p standing empty out at out at
unfolding shift
shift_none n p standing empty out [] at h k = played-none n p standing empty out at k
shift_none n p standing empty out (a ∷ []) at h k = played-none n p standing empty out at k
shift_none n p standing empty out (a ∷ b ∷ l) at h k = absurd (omega arith)

-- a shift has fewer crossings than its path has bays
pub shift-length : (p path : List ℕ) → length (shift p path) ≤ length path - 1
unfolding shift
shift-length p [] = omega arith
shift-length p (a ∷ []) = omega arith
shift-length p (a ∷ b ∷ l) = omega (arith, shift-length p (b ∷ l), length-append (shift p (b ∷ l)) (crossing (carrier_at p a) a b ∷ []))

-- and along two bays or more somebody moves
pub shift-some : (p path : List ℕ) → 2 ≤ length path → 0 < length (shift p path)
unfolding shift
shift-some p [] h = absurd (omega arith)
shift-some p (a ∷ []) h = absurd (omega arith)
shift-some p (a ∷ b ∷ l) h = omega (arith, length-append (shift p (b ∷ l)) (crossing (carrier_at p a) a b ∷ []))

-- a path along which carriers can be shifted has two bays or more where its first is occupied
pub two-bays : (Y : Yard) (p : List ℕ) (apart : Apart p) (x : Bay) (path rest : List ℕ) → path ≡ x ∷ rest → In x p → Shiftable Y p apart path → 2 ≤ length path
two-bays Y p apart x path [] e i s = not-both i (rw e at s)
two-bays Y p apart x path (b ∷ l) e i s = rw e (omega arith)

-- The carriers on the path have moved on, and are told. At the path's first bay the number of the one that left it may still stand.
pub record Shifting (n : ℕ) (p path q standing out : List ℕ) (at : ℕ) (out' : List ℕ) (m : ℕ) : Type 0 where
  pub told : Told (shift p path) p q out at out' m
  pub stands : Stood n q (set standing (get_or path 0 0) (length p))

can-tail : {n : ℕ} {p : List ℕ} (a b : Bay) (l : List ℕ) → CanShift n p (a ∷ b ∷ l) → CanShift n p (b ∷ l)
can-tail a b l s = record {
  yard = s.yard;
  apart = s.apart;
  shiftable = s.shiftable.3;
  within = λ c i. s.within c (In-tail c a (b ∷ l) i);
}

pub can-drop : {n : ℕ} {p : List ℕ} (path : List ℕ) (i : ℕ) → i < length path → CanShift n p path → CanShift n p (drop i path)
can-drop [] i h s = absurd (omega arith)
can-drop (a ∷ l) zero h s = s
can-drop (a ∷ []) (suc i) h s = absurd (omega arith)
can-drop (a ∷ b ∷ l) (suc i) h s = can-drop (b ∷ l) i (omega arith) (can-tail a b l s)

-- Once the carriers on the path have moved on, its first bay is empty, and at a bay off the path the carrier that stood there still stands.
pub record Ahead (p q path : List ℕ) : Type 0 where
  pub apart : Apart q
  pub long : length q ≡ length p
  pub empty : Out (get_or path 0 0) q
  pub stays : (a : Bay) → In a p → Out a path → In a q × (carrier_at q a ≡ carrier_at p a)

pub ahead_of : {n : ℕ} {p : List ℕ} (b : Bay) (l : List ℕ) → CanShift n p (b ∷ l) → Ahead p (after p (shift p (b ∷ l))) (b ∷ l)
ahead_of {p = p} b l s =
    let q = after p (shift p (b ∷ l)) in
    let t = shift-shifts s.yard p s.apart b l s.shiftable in
    let apart-q = plan-apart s.yard p (shift p (b ∷ l)) s.apart t.legal in
    record {
      apart = apart-q;
      long = after-length p (shift p (b ∷ l));
      empty = t.empties;
      stays = λ a i o.
          let c : ℕ = carrier_at p a in
          let hc : c < length p = place_of-there p a i in
          let stood-at : bay_of p c ≡ a = place_of-bay p a i in
          let still : bay_of q c ≡ a = t.keeps c hc (rw stood-at o) ∙ stood-at in
          let hq : c < length q = rw after-length hc in
          (rw still at (bay-in q c hq), carrier-is q a c apart-q hq still);
    }

-- ## The next carrier

module _ {n : ℕ} {p : List ℕ} (a b : Bay) (l : List ℕ) (s : CanShift n p (a ∷ b ∷ l)) where
  -- the placement once the carriers ahead have moved
  abbrev ahead : Placement
  ahead = after p (shift p (b ∷ l))

  -- what the crossing of the carrier at a needs by then; it is the carrier that stood there at first
  record Turn : Type 0 where
    from_low : a < n
    to_low : b < n
    differ : a ≡ b → ⊥
    apart : Apart ahead
    long : length ahead ≡ length p
    full : In a ahead
    empty : Out b ahead
    same : carrier_at ahead a ≡ carrier_at p a

  turn : Turn
  turn =
      let t = ahead_of b l (can-tail a b l s) in
      let here = t.stays a s.shiftable.0 s.shiftable.2 in
      record {
        from_low = s.within a (In-head a (b ∷ l));
        to_low = s.within b (In-tail b a (b ∷ l) (In-head b l));
        differ = Out-head a b l s.shiftable.2;
        apart = t.apart;
        long = t.long;
        full = here.0;
        empty = t.empty;
        same = here.1;
      }

  module _ {q standing out out' : List ℕ} {at m : ℕ} (w : Shifting n p (b ∷ l) q standing out at out' m) where
    stands-behind : get_or standing a 0 ≡ carrier_at q a
    stands-behind = sym (get_or-set_other standing b a (length p) 0 turn.differ) ∙ w.stands.stands a turn.from_low

    stands-low : get_or standing a 0 < length q
    stands-low = rw stands-behind (place_of-there q a (rw w.told.moved turn.full))

    shifting-more : {q' standing' out'' : List ℕ} {r : ℕ} → n ≤ length standing → MovedOn a b q standing out' m q' standing' out'' r
        → Shifting n p (a ∷ b ∷ l) q' standing' out at out'' r
    unfolding after
    shifting-more {q'} {standing'} {out''} {r} hw x =
        let t = turn in
        let who : get_or standing a 0 ≡ carrier_at p a = stands-behind ∙ rw w.told.moved t.same in
        let one : Told (crossing (carrier_at p a) a b ∷ []) q q' out' m out'' r =
        record { moved = x.moved ∙ rw who; stored = x.stored ∙ rw who; counted = x.counted } in
        let long : length q ≡ length p = ap length w.told.moved ∙ t.long in
        let full : In a q = rw w.told.moved t.full in
        let empty : Out b q = rw w.told.moved t.empty in
        let crossed = crossed-stood q a b w.stands.apart full empty w.stands t.from_low t.to_low (rw length-set hw) in
        record {
          told = rw shift-cons (told-then w.told one);
          stands = rw (x.moved, x.shown) (rw (get_or-set_other standing b a (length p) 0 t.differ, set-set, long) at crossed);
        }

-- ## Along the path, by places

module _ {n : ℕ} {p : List ℕ} (path : List ℕ) (s : CanShift n p path) where
  split : (j : ℕ) → suc j < length path → drop j path ≡ get_or path j 0 ∷ get_or path (suc j) 0 ∷ drop (suc (suc j)) path
  split j h = drop-cons path j 0 (omega arith) ∙ ap (λ (l : List ℕ). get_or path j 0 ∷ l) (drop-cons path (suc j) 0 h)

  -- the path's ends are among the n bays
  pub first-low : 2 ≤ length path → get_or path 0 0 < n
  first-low h = s.within (get_or path 0 0) (bay-in path 0 (omega arith))

  pub last-low : 2 ≤ length path → get_or path (length path - 1) 0 < n
  last-low h = s.within (get_or path (length path - 1) 0) (bay-in path (length path - 1) (omega arith))

  -- nobody has moved yet: the last bay is empty
  pub shifting-none : {standing empty : List ℕ} (out : List ℕ) (at : ℕ) → 2 ≤ length path → Placed n p standing empty
      → Shifting n p (drop (length path - 1) path) p standing out at out at
  unfolding after
  shifting-none {standing} out at h k =
      let last = length path - 1 in
      let e : suc last ≡ length path = omega arith in
      let one : drop last path ≡ get_or path last 0 ∷ [] = drop-cons path last 0 (omega arith) ∙ rw (e, drop-length) in
      let t : CanShift n p (get_or path last 0 ∷ []) = rw one at (can-drop path last (omega arith) s) in
      let nobody : get_or standing (get_or path last 0) 0 ≡ length p = k.stands (get_or path last 0) (last-low h) ∙ carrier-none p (get_or path last 0) t.shiftable in
      rw one (record {
        told = rw shift_one (record { moved = refl; stored = refl; counted = omega arith });
        stands = rw (← nobody, set-get_or) (stood k);
      })

  -- what moving on from place j to the next, i, asks
  pub record Next (i j m : ℕ) (q standing : List ℕ) : Type 0 where
    pub from_low : get_or path j 0 < n
    pub to_low : get_or path i 0 < n
    pub stands : get_or standing (get_or path j 0) 0 < length q
    pub fits : m < 2 ^ 63

  module _ (i j : ℕ) (e : i ≡ suc j) (h : i < length path) {q standing out out' : List ℕ} {at m : ℕ}
      (w : Shifting n p (drop i path) q standing out at out' m) where
    can-next : CanShift n p (get_or path j 0 ∷ get_or path (suc j) 0 ∷ drop (suc (suc j)) path)
    can-next = rw (split j (omega arith)) at (can-drop path j (omega arith) s)

    by-places : Shifting n p (get_or path (suc j) 0 ∷ drop (suc (suc j)) path) q standing out at out' m
    by-places = rw (e, drop-cons path (suc j) 0 (omega arith)) at w

    pub shifting-asks : at + length path < 2 ^ 63 → Next i j m q standing
    shifting-asks f = record {
      from_low = (turn _ _ _ can-next).from_low;
      to_low = rw e (turn _ _ _ can-next).to_low;
      stands = stands-low _ _ _ can-next by-places;
      fits = omega (arith, w.told.counted, shift-length p (drop i path), length-drop i path);
    }

    pub shifting-on : {q' standing' out'' : List ℕ} {r : ℕ} → n ≤ length standing
        → MovedOn (get_or path j 0) (get_or path i 0) q standing out' m q' standing' out'' r
        → Shifting n p (drop j path) q' standing' out at out'' r
    shifting-on hw x = rw (split j (omega arith)) (shifting-more _ _ _ can-next by-places hw (rw e at x))

-- ## The empty bays

-- what joins a set and leaves it again is not missed where it was not in before
took : (x b : Bool) → (b ≡ true → x ≡ false) → (x or b) and not b ≡ x
unfolding ◌and◌ ◌or◌
took x true f = rw (f refl)
took true false f = refl
took false false f = refl

-- of the path only the last bay is empty
only-last : {n : ℕ} {p : List ℕ} (a : Bay) (l : List ℕ) → CanShift n p (a ∷ l)
    → is_empty p a and not (eqb a (get_or (a ∷ l) (length l) 0)) ≡ false
unfolding ◌and◌
only-last a [] s = rw (s.shiftable, eq-eqb a a refl)
only-last a (b ∷ l) s = rw s.shiftable.0

-- the path's first bay is empty afterwards, and its last one is not
shift-empty : {n : ℕ} {p : List ℕ} (a : Bay) (l : List ℕ) → CanShift n p (a ∷ l) → (z : Bay)
    → is_empty (after p (shift p (a ∷ l))) z ≡ (is_empty p z and not (eqb z (get_or (a ∷ l) (length l) 0))) or eqb z a
unfolding after ◌and◌ ◌or◌
shift-empty {p = p} a [] s z = rw shift_one (elim (ℕ_discrete z a) [
  | yes e ↦ rw (e, s.shiftable, eq-eqb a a refl)
  | no e ↦ rw (ne_eqb z a e) (sym (neither (elem z p)))
])
shift-empty {p = p} a (b ∷ l) s z =
    let t = turn a b l s in
    let last = get_or (b ∷ l) (length l) 0 in
    let rest = can-tail a b l s in
    let x = rw (t.same, shift-empty b l rest z) at (crossed-empty (ahead a b l s) a b t.apart t.full t.empty z) in
    let y = took (is_empty p z and not (eqb z last)) (eqb z b) (λ e. rw (eqb-true z b e) (only-last b l rest)) in
    rw (shift-cons, after-append) (x ∙ ap (λ (v : Bool). v or eqb z a) y)

-- all have moved on, and the set of empty bays follows
pub shifting-all : {n : ℕ} {p : List ℕ} (path : List ℕ) (s : CanShift n p path) {q standing standing₀ empty empty' out out' : List ℕ} {at m : ℕ}
    → 2 ≤ length path
    → Placed n p standing₀ empty → Shifting n p path q standing out at out' m
    → ((z : ℕ) → mem empty' z ≡ (mem empty z and not (eqb z (get_or path (length path - 1) 0))) or eqb z (get_or path 0 0))
    → Played (shift p path) n p q (set standing (get_or path 0 0) (length q)) empty' out at out' m
shifting-all [] s h k w f = absurd (omega arith)
shifting-all {n} {p} (a ∷ l) s {q} h k w f =
    let long : length q ≡ length p = ap length w.told.moved ∙ after-length p (shift p (a ∷ l)) in
    let last : length (a ∷ l) - 1 ≡ length l = omega arith in
    record {
      moved = w.told.moved;
      placed = rw long (placed_of w.stands (λ z hz. f z ∙ rw (last, k.empties z hz, w.told.moved) (sym (shift-empty a l s z))));
      stored = stored_exact w.told.stored;
      counted = w.told.counted;
    }
