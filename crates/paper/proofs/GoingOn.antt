-- Clearing goes on with one kept bay e. An attempt vacates x and then e, holding the two carriers' bays, or does so while both stand a bay
-- further on: so it is legal, the two stand where they stood, and x and e are empty. What sufficed without going on is as it was.
use Rattle.std.specs.Prelude.{if◌then◌else◌}
use mathlib.Core.Path.{◌≡◌, refl, sym, ◌∙◌}
use mathlib.Core.Bool.{true, false}
use mathlib.Core.List.{List, [], ◌∷◌, ◌++◌}
use mathlib.Core.Option.{Option, some}
use Prim.Native.Nat.{ℕ, ◌<◌}
use lib.Dec.{eqb, ltb}
use lib.ListN.{length, get_or, drop, length-set}
use Rattle.paper.specs.Basics.{◌and◌, ◌>>=◌, filter, first_of, up_to, In, Out}
use Rattle.paper.specs.Yard.{Bay, Carrier, Yard, Placement, Crossing, crossing, bay_of, move, after, joined, legal_plan, junction}
use Rattle.paper.specs.Path.{nearest_first, shortest_path}
use Rattle.paper.specs.Procedure.{Made, together, Action, ◌then◌, cross, vacate, bring, clear_once, aside, around, gone_on, clear, finish, trial_led, trial, swap}
use Rattle.paper.proofs.Tests.{by_cases, by-option, never-some}
use Rattle.paper.proofs.Members.{In-head, In-tail, In-cases, In-one}
use Rattle.paper.proofs.Rings.{joined-sym}
use Rattle.paper.proofs.Playing.{Apart, after-append, after-length, plan-append, Sound}
use Rattle.paper.proofs.Vacating.{plan-apart, vacate-vacates}
use Rattle.paper.proofs.Actions.{eqb_comm, same-moves, then-split, cross-some, cross-split, Pulled, pulled}

-- whoever is held among two is held among more
pub two-held : (z v b : Bay) (more : List Bay) → In z (v ∷ b ∷ []) → In z (v ∷ b ∷ more)
two-held z v b more i =
    In-cases z v (b ∷ []) i (λ q. rw q (In-head v (b ∷ more))) (λ k. In-tail z v (b ∷ more) (rw (In-one z b k) (In-head b more)))

module _ (Y : Yard) where
  -- What an attempt leaves: legal crossings; nobody at v or b has moved; x and e are empty.
  pub record Attempted (v b e x : Bay) (p : Placement) (xs : List Crossing) : Type 0 where
    pub legal : legal_plan Y p xs ≡ true
    pub stays : (k : Carrier) → k < length p → In (bay_of p k) (v ∷ b ∷ []) → bay_of (after p xs) k ≡ bay_of p k
    pub empties : Out x (after p xs)
    pub empties-kept : Out e (after p xs)

  -- The first way: x is held while e is vacated, so it stays empty.
  pub aside-empties : (v b e x : Bay) (p : Placement) (m : Made) → Apart p → In x (up_to Y.bays) → In e (up_to Y.bays)
      → aside Y v b e x p ≡ some m → Attempted v b e x p m.moves
  unfolding aside
  aside-empties v b e x p m apart ix ie h =
      then-split (vacate Y (v ∷ b ∷ []) x) (vacate Y (v ∷ b ∷ x ∷ []) e) p m h
      (λ first_made second-made f g q.
      let ms = first_made.moves in
      let ns = second-made.moves in
      let s = vacate-vacates Y (v ∷ b ∷ []) x p first_made apart ix f in
      let t = vacate-vacates Y (v ∷ b ∷ x ∷ []) e (after p ms) second-made (plan-apart Y p ms apart s.legal) ie g in
      rw q (record {
        legal = plan-append Y p ms ns s.legal t.legal;
        stays = λ k l i.
            let first : bay_of (after p ms) k ≡ bay_of p k = s.keeps k l i in
            rw after-append (t.keeps k (rw after-length l) (rw first (two-held (bay_of p k) v b (x ∷ []) i)) ∙ first);
        empties = rw after-append (t.spares x (In-tail x v (b ∷ x ∷ []) (In-tail x b (x ∷ []) (In-head x []))) s.empties);
        empties-kept = rw after-append t.empties;
      }))

  module _ (sound : Sound Y) (L M : Carrier) (differ : eqb L M ≡ false) (v b e x : Bay) (p : Placement) (apart : Apart p) (hL : L < length p) (hM : M < length p)
      (at_v : bay_of p L ≡ v) (at_b : bay_of p M ≡ b) (ve : joined Y v e ≡ true) (vb : joined Y v b ≡ true) (vx : joined Y v x ≡ true) (free : Out e p)
      (other : x ≡ b → ⊥) where
    abbrev forth : List Crossing
    forth = crossing L v e ∷ crossing M b v ∷ []

    abbrev back : List Crossing
    back = crossing M v b ∷ crossing L e v ∷ []

    -- where both have gone forth
    abbrev further : Placement
    further = move (move p (crossing L v e)) (crossing M b v)

    -- whoever stands at v or b is one of the two
    one_of : (k : Carrier) → k < length p → In (bay_of p k) (v ∷ b ∷ []) → (q : Placement) → bay_of q L ≡ v → bay_of q M ≡ b → bay_of q k ≡ bay_of p k
    one_of k h i q f g =
        In-cases (bay_of p k) v (b ∷ []) i
        (λ z. let same : k ≡ L = apart k L h hL (z ∙ sym at_v) in rw same (f ∙ sym at_v))
        (λ z. let same : k ≡ M = apart k M h hM (In-one (bay_of p k) b z ∙ sym at_b) in rw same (g ∙ sym at_b))

    forth-goes : Pulled Y L M differ v b e p
    forth-goes = pulled Y L M differ v b e p apart hL hM at_v at_b ve (joined-sym Y v b vb) free

    -- both have gone forth, and the bays are vacated
    module _ (m : Made) (h : aside Y v e b x further ≡ some m) where
      abbrev ms : List Crossing
      ms = m.moves

      abbrev emptied : Placement
      emptied = after further ms

      vacated : Attempted v e b x further ms
      vacated = aside-empties v e b x further m forth-goes.apart (sound.inside v x vx) (sound.inside v b vb) h

      leads : bay_of emptied L ≡ e
      leads = vacated.stays L (simp (length-set) hL) (rw forth-goes.leader (In-tail e v (e ∷ []) (In-head e []))) ∙ forth-goes.leader

      follows : bay_of emptied M ≡ v
      follows = vacated.stays M (simp (length-set) hM) (rw forth-goes.follower (In-head v (e ∷ []))) ∙ forth-goes.follower

      back-goes : Pulled Y M L (eqb_comm L M differ) v e b emptied
      back-goes = pulled Y M L (eqb_comm L M differ) v e b emptied (plan-apart Y further ms forth-goes.apart vacated.legal)
          (simp (after-length, length-set) hM) (simp (after-length, length-set) hL) follows leads vb (joined-sym Y v e ve) vacated.empties-kept

      there_and_back : Attempted v b e x p (forth ++ (ms ++ back))
      unfolding after
      there_and_back =
          let ends : after p (forth ++ (ms ++ back)) ≡ move (move emptied (crossing M v b)) (crossing L e v) = after-append further ms back in
          record {
            legal = plan-append Y p forth (ms ++ back) forth-goes.both-legal (plan-append Y further ms back vacated.legal back-goes.both-legal);
            stays = λ k l i. rw ends (one_of k l i (move (move emptied (crossing M v b)) (crossing L e v)) back-goes.follower back-goes.leader);
            empties = rw ends (back-goes.spares x vacated.empties other);
            empties-kept = rw ends back-goes.leaves;
          }

    -- The second way: the first with b and e in each other's place, while the two stand at e and v.
    pub around-empties : (all : Made) → around Y L M v b e x p ≡ some all → Attempted v b e x p all.moves
    unfolding around after
    around-empties all h =
        cross-split L e (cross M v then aside Y v e b x then cross M b then cross L v) p all h
        (λ ks f q1. cross-split M v (aside Y v e b x then cross M b then cross L v) _ ks f
        (λ bs g q2. then-split (aside Y v e b x) (cross M b then cross L v) further bs g
        (λ made cs m k q3. cross-split M b (cross L v) (after further made.moves) cs k
        (λ ds l q4.
        let a1 = same-moves q1 in
        let a2 = same-moves q2 in
        let a3 = same-moves q3 in
        let a4 = same-moves q4 in
        let a5 = same-moves (cross-some L v _ ds l) in
        let done : all.moves ≡ forth ++ (made.moves ++ back) = cc (at_v, forth-goes.second-bay, follows made m, (back-goes made m).second-bay) in
        rw done (there_and_back made m)))))

-- ## What sufficed before

-- a trial that clears once and does not go on
unfoldable pub trial_led_once : Yard → Carrier → Carrier → Bay → List Bay → Action
trial_led_once Y L M v ahead p =
    bring Y L M ahead p >>= λ brought.
    let p₁ = after p brought.moves in
    let b = bay_of p₁ M in
    let once = clear_once Y v b p₁ in
    finish Y L M v b (together brought once.made) once.kept

unfoldable pub trial_once : Yard → Carrier → Carrier → Bay → Action
trial_once Y r s v p =
    let path = shortest_path Y [] (bay_of p r) v in
    if ltb 1 (length path) and eqb (get_or path 1 0) (bay_of p s)
    then trial_led_once Y s r v (drop 2 path) p
    else trial_led_once Y r s v (drop 1 path) p

unfoldable pub swap_once : Yard → Carrier → Carrier → Action
swap_once Y r s p = first_of (λ v. trial_once Y r s v p) (filter (junction Y) (nearest_first Y [] (bay_of p r)))

finished-before : (Y : Yard) (L M : Carrier) (v b : Bay) (p : Placement) (brought made : Made) (kept : List Bay) (m : Made)
    → finish Y L M v b (together brought made) kept ≡ some m
    → finish Y L M v b (together brought (gone_on Y L M v b p made kept).made) (gone_on Y L M v b p made kept).kept ≡ some m
unfolding finish gone_on
finished-before Y L M v b p brought made [] m h = h
finished-before Y L M v b p brought made (e ∷ []) m h = never-some m h
finished-before Y L M v b p brought made (x ∷ y ∷ rest) m h = h

led-before : (Y : Yard) (L M : Carrier) (v : Bay) (ahead : List Bay) (p : Placement) (m : Made)
    → trial_led_once Y L M v ahead p ≡ some m → trial_led Y L M v ahead p ≡ some m
unfolding trial_led_once trial_led clear
led-before Y L M v ahead p m h =
    by-option (bring Y L M ahead p)
    (λ e. never-some m (rw e at h))
    (λ brought e.
    let p₁ = after p brought.moves in
    let b = bay_of p₁ M in
    let once = clear_once Y v b p₁ in
    rw e (finished-before Y L M v b p₁ brought once.made once.kept m (rw e at h)))

-- A trial that succeeds without going on succeeds with the same crossings and the same count.
pub trial-as-before : (Y : Yard) (r s : Carrier) (v : Bay) (p : Placement) (m : Made) → trial_once Y r s v p ≡ some m → trial Y r s v p ≡ some m
unfolding trial_once trial
trial-as-before Y r s v p m h =
    let path = shortest_path Y [] (bay_of p r) v in
    by_cases (ltb 1 (length path) and eqb (get_or path 1 0) (bay_of p s))
    (λ e. rw e (led-before Y s r v (drop 2 path) p m (rw e at h)))
    (λ e. rw e (led-before Y r s v (drop 1 path) p m (rw e at h)))

first-too : {B : Type 0} (f g : ℕ → Option B) (l : List ℕ) {y : B} → ((x : ℕ) (z : B) → f x ≡ some z → g x ≡ some z) → first_of f l ≡ some y
    → (z : B) × (first_of g l ≡ some z)
unfolding first_of
first-too f g [] {y} k h = never-some y h
first-too f g (x ∷ l) {y} k h =
    by-option (g x)
    (λ e. by-option (f x)
    (λ d. rw e (first-too f g l k (rw d at h)))
    (λ z d. never-some z (sym e ∙ k x z d)))
    (λ z e. rw e (z, refl))

-- A swap that succeeds without going on succeeds: refusal 7 comes in fewer yards.
pub swap-as-before : (Y : Yard) (r s : Carrier) (p : Placement) (m : Made) → swap_once Y r s p ≡ some m → (k : Made) × (swap Y r s p ≡ some k)
unfolding swap_once swap
swap-as-before Y r s p m h =
    first-too (λ v. trial_once Y r s v p) (λ v. trial Y r s v p) (filter (junction Y) (nearest_first Y [] (bay_of p r))) (λ v zs e. trial-as-before Y r s v p zs e) h
