-- An attempt in code is the paper's: the two carriers go forth and back by one crossing each.
-- Assumes nothing.
use Rattle.std.proofs.Common.{None, Some}
use mathlib.Core.Path.{◌≡◌, sym, ◌∙◌, ap, refl}
use mathlib.Core.List.{List, [], ◌∷◌, map}
use mathlib.Core.Option.{none, some}
use Prim.Native.Nat.{ℕ, ◌≤◌, ◌<◌, ◌+◌, ◌*◌}
use native.Mathlib.Omega.{arith}
use native.Mathlib.Numerals.{add-one}
use lib.ListN.{length, get_or, set, take, length-set, length-map}
use lib.Seq.{take_all, take-suc-set, take-suc, get_or-set_same, get_or-set_other}
use Rattle.paper.specs.Basics.{up_to, In, Out}
use Rattle.paper.specs.Yard.{Bay, Carrier, Yard, Placement, bay_of, pack, after}
use Rattle.paper.specs.Procedure.{Made, together, ◌then◌, cross, aside, around}
use Rattle.paper.proofs.Members.{in_count, In-head}
use Rattle.paper.proofs.Playing.{after-length}
use Rattle.paper.proofs.Actions.{then_runs}
use Rattle.paper.proofs.GoingOn.{Attempted, aside-empties}
use Rattle.paper.proofs.Making.{same-made}
use Rattle.words.specs.Sets.{mem, words, span, mem_row}
use Rattle.moving.specs.Placed.{Placed}
use Rattle.acting.specs.Acting.{Ready, Tabled, nothing, Tallied, Tries}
use Rattle.acting.specs.declared.Tally.{Tally}
use Rattle.acting.proofs.Acting.{tallied-then, tries-some, tried-done, tried-failed}
use Rattle.bring.specs.Bringing.{entering}
use Rattle.attempts.specs.Attempting.{AtJunction, Logged}

-- ## Copies

pub copy_more : (to from : List ℕ) (i : ℕ) → i < length from → i < length to → take i to ≡ take i from → take (i + 1) (set to i (get_or from i 0)) ≡ take (i + 1) from
copy_more to from i h k e = rw (add-one, take-suc-set to i (get_or from i 0) k, take-suc from i 0 h, e)

pub copied : (to from : List ℕ) (i : ℕ) → i ≤ length from → length from ≤ i → take i to ≡ take i from → take (length from) to ≡ from
copied to from i h k e = let z : length from ≡ i = omega arith in rw z (e ∙ take_all i from k)

pub ready-copy : {table placement standing empty : List ℕ} → Ready table placement standing empty → (p w f : List ℕ) → p ≡ placement → w ≡ standing → length f ≡ words → ((b : ℕ) → b < span → mem_row f 0 b ≡ mem empty b) → Ready table p w f
ready-copy {table} {placement} {standing} {empty} x p w f e d l g = rw (e, d) (record {
  most = x.most;
  table_size = x.table_size;
  empty_size = l;
  placed = record {
    apart = x.placed.apart;
    inside = x.placed.inside;
    few = x.placed.few;
    stands = x.placed.stands;
    empties = λ b h. (let z : 0 * span + b ≡ b = omega arith in rw z at (g b (omega (arith, x.most)))) ∙ x.placed.empties b h;
  };
  tabled = x.tabled;
  levelled = x.levelled;
})

pub in-bays : {n : ℕ} {table : List ℕ} (t : Tabled n table) {x : ℕ} → x < n → In x (up_to t.yard.bays)
in-bays t {x} h = in_count 0 t.yard.bays x (omega arith) (omega (arith, t.joins.bays))

-- ## The second way

module _ (Y : Yard) (L M : Carrier) (differ : M ≡ L → ⊥) (b e x : Bay) (p : Placement) where
  abbrev v : Bay
  v = bay_of p L

  abbrev further : Placement
  further = after p (entering L M e p).moves

  around-stops : aside Y v e b x further ≡ none → around Y L M v b e x p ≡ none
  unfolding around ◌then◌ cross after
  around-stops h = rw h

  around-runs : (ms : Made) → aside Y v e b x further ≡ some ms → bay_of (after further ms.moves) M ≡ v
      → around Y L M v b e x p ≡ some (together (entering L M e p) (together ms (entering M L b (after further ms.moves))))
  unfolding around after cross
  around-runs ms h at_v =
      let q = after further ms.moves in
      let one : bay_of (set p L e) M ≡ bay_of p M = get_or-set_other p L M e 0 differ in
      let two : bay_of (set q M b) L ≡ bay_of q L = get_or-set_other q M L b 0 (λ z. differ (sym z)) in
      then_runs (cross L e) (cross M v then aside Y v e b x then cross M b then cross L v) p _ _ refl
      (then_runs (cross M v) (aside Y v e b x then cross M b then cross L v) _ _ _ refl
      (then_runs (aside Y v e b x) (cross M b then cross L v) _ ms _ h
      (then_runs (cross M b) (cross L v) q _ _ refl refl)))
      ∙ rw (one, two, at_v) (ap some (same-made refl (omega arith)))

module _ {n : ℕ} {table : List ℕ} (t : Tabled n table) {L M : Carrier} (differ : M ≡ L → ⊥) {b e x : Bay} {p out : List ℕ} {at : Tally} {q standing₁ empty₁ out₁ : List ℕ} {a : Tally} (hL : L < length p) (hM : M < length p)
    (hx : x < n) (hb : b < n) (forth : Tallied (entering L M e p) n p q standing₁ empty₁ out at out₁ a) where
  Y : Yard
  Y = t.yard

  follower : bay_of q M ≡ bay_of p L
  unfolding after
  follower = rw forth.moved (get_or-set_same (set p L e) M (bay_of p L) 0 (rw length-set hM))

  long : length q ≡ length p
  long = rw forth.moved (after-length p (entering L M e p).moves)

  vacated : (w : Bay) (ms : Made) → aside t.yard w e b x q ≡ some ms → Attempted t.yard w e b x q ms.moves
  vacated w ms h = aside-empties t.yard w e b x q ms forth.placed.apart (in-bays t hx) (in-bays t hb) h

  module _ (v : Bay) {q' standing₂ empty₂ out₂ : List ℕ} {c : Tally} (s : Tries (aside t.yard v e b x q) n q out₁ a q' standing₂ empty₂ out₂ (Some c)) where
    -- both are as many as before, and the follower's bay is empty
    pub round-ready : (L < length q') × (M < length q') × Out b q' × Placed n q' standing₂ empty₂
    round-ready =
        let d = tried-done s in
        let many : length q' ≡ length p = ap length d.2.moved ∙ after-length q d.0.moves ∙ long in
        (omega arith, omega arith, rw d.2.moved (vacated v d.0 d.1).empties-kept, d.2.placed)

    pub round-done : {p' standing' empty' out' : List ℕ} {r : Tally} → AtJunction L M v b p → Tallied (entering M L b q') n q' p' standing' empty' out₂ c out' r
        → Tries (around t.yard L M v b e x p) n p out at p' standing' empty' out' (Some r)
    round-done j back =
        let d = tried-done s in
        let ms = d.0 in
        let w : v ≡ bay_of p L = sym j.at_v in
        let made : aside t.yard (bay_of p L) e b x (after p (entering L M e p).moves) ≡ some ms = rw (← forth.moved, ← w) d.1 in
        let stays : bay_of (after q ms.moves) M ≡ bay_of q M = (vacated v ms d.1).stays M (rw long hM) (rw (follower, ← w) (In-head v (e ∷ []))) in
        let there : bay_of (after (after p (entering L M e p).moves) ms.moves) M ≡ bay_of p L = rw (← forth.moved) (stays ∙ follower) in
        let runs = around-runs t.yard L M differ b e x p ms made there in
        let ends : entering M L b (after (after p (entering L M e p).moves) ms.moves) ≡ entering M L b q' = rw (← forth.moved, ← d.2.moved) in
        rw w (tries-some (runs ∙ ap (λ (z : Made). some (together (entering L M e p) (together ms z))) ends) (tallied-then forth (tallied-then d.2 back)))

  pub round-fails : (v : Bay) {lent q' standing₂ empty₂ rest : List ℕ} → AtJunction L M v b p → Tries (aside t.yard v e b x q) n q lent nothing q' standing₂ empty₂ rest None
      → around t.yard L M v b e x p ≡ none
  round-fails v j s =
      let w : v ≡ bay_of p L = sym j.at_v in
      let fails : aside t.yard (bay_of p L) e b x (after p (entering L M e p).moves) ≡ none = rw (← forth.moved, ← w) (tried-failed s) in
      rw w (around-stops t.yard L M differ b e x p fails)

-- ## Logged

-- what was counted from nothing was logged
pub tallied-logged : {made : Made} {n : ℕ} {p log₀ p' standing' empty' log : List ℕ} {m : Tally} → Tallied made n p p' standing' empty' log₀ nothing log m → Logged made log m
tallied-logged {made = made} {m = m} w =
    let many : 0 + length (map pack made.moves) ≡ m.crossings = omega (arith, w.counted, length-map made.moves pack) in
    record {
      counted = omega (arith, w.counted);
      stored = λ h. rw many at (w.stored.front (omega (arith, many, h, w.stored.long)));
      parks = omega (arith, w.parks);
      few = w.few (omega arith);
    }
