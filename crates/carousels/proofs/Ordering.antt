-- The order of the carriers around a ring never changes: a legal crossing moves one carrier to an empty place next to its own,
-- so nobody is passed.
use mathlib.Core.Path.{◌≡◌, refl, sym, ◌∙◌, ap}
use mathlib.Core.Bool.{true}
use mathlib.Core.List.{List, [], ◌∷◌}
use mathlib.Core.Logic.{◌⊎◌, ⊎_elim, ◌↔◌}
use Prim.Native.Nat.{ℕ, ◌<◌}
use native.Mathlib.Omega.{arith}
use lib.Dec.{eqb}
use lib.ListN.{length, length-set}
use borrow.Author.Tests.{eqb-true, eqb-false, ne_eqb}
use Rattle.paper.specs.Basics.{In, up_to}
use Rattle.paper.specs.Yard.{Bay, Carrier, Yard, Placement, Crossing, bay_of, move, after, joined, legal_plan}
use Rattle.paper.proofs.Tests.{by_cases}
use Rattle.paper.proofs.Members.{count-high}
use Rattle.paper.proofs.Rings.{joined-sym}
use Rattle.paper.proofs.Playing.{Sound, Good, Legal, legal-facts, legal-of, plan-head, plan-tail, plan-cons, move-self, move-other}
use Rattle.paper.proofs.Carrying.{plan-good}
use Rattle.carousels.specs.Round.{Next, Round}
use Rattle.carousels.specs.Leads.{Leads}
use Rattle.carousels.specs.Order.{ahead, stands, Before}
use Rattle.carousels.proofs.Circling.{ahead-same, from_next, to-next}

-- ## Three places, one of which is moved on to the next

module _ (n a b c : ℕ) (ha : a < n) (hb : b < n) (hc : c < n) (ab : a ≡ b → ⊥) (ac : a ≡ c → ⊥) (bc : b ≡ c → ⊥) where
  first_on : (a' : ℕ) → a' < n → Next n a a' → (ahead n a b < ahead n a c) ↔ (ahead n a' b < ahead n a' c)
  first_on a' h k = let e = from_next n a a' b ha h hb k ab in let f = from_next n a a' c ha h hc k ac in omega arith

  second-on : (b' : ℕ) → b' < n → Next n b b' → (a ≡ b' → ⊥) → (b' ≡ c → ⊥) → (ahead n a b < ahead n a c) ↔ (ahead n a b' < ahead n a c)
  second-on b' h k ab' bc' =
      let e = to-next n a b b' ha hb h k ab' in
      let f : ahead n a b' ≡ ahead n a c → ⊥ = λ z. bc' (ahead-same n a b' c ha h hc z) in
      omega arith

  third-on : (c' : ℕ) → c' < n → Next n c c' → (a ≡ c' → ⊥) → (ahead n a b < ahead n a c) ↔ (ahead n a b < ahead n a c')
  third-on c' h k ac' =
      let e = to-next n a c c' ha hc h k ac' in
      let f : ahead n a b ≡ ahead n a c → ⊥ = λ z. bc (ahead-same n a b c ha hb hc z) in
      omega arith

-- three different carriers
pub record Three (p : Placement) (a b c : Carrier) : Type 0 where
  pub a-there : a < length p
  pub b_there : b < length p
  pub c-there : c < length p
  pub ab : a ≡ b → ⊥
  pub ac : a ≡ c → ⊥
  pub bc : b ≡ c → ⊥

flip : {A B : Type 0} → (A ↔ B) → (B ↔ A)
flip e = (e.1, e.0)

-- a bay of the yard is a number below n
pub low : (Y : Yard) (b : Bay) → In b (up_to Y.bays) → b < Y.bays
low Y b i = let h = count-high 0 Y.bays b i in omega arith

module _ (Y : Yard) (o : Round Y) where
  pub stands-low : (p : Placement) → Good Y p → (c : Carrier) → c < length p → stands Y o p c < Y.bays
  stands-low p good c h = o.place_low (bay_of p c) (low Y (bay_of p c) (good.inside c h))

  -- different carriers stand at different places
  pub stands-apart : (p : Placement) → Good Y p → (a b : Carrier) → a < length p → b < length p → stands Y o p a ≡ stands Y o p b → a ≡ b
  stands-apart p good a b ha hb e =
      let same : bay_of p a ≡ bay_of p b =
      sym (o.bay_place (bay_of p a) (low Y (bay_of p a) (good.inside a ha)))
      ∙ ap o.bay e ∙ o.bay_place (bay_of p b) (low Y (bay_of p b) (good.inside b hb)) in
      good.apart a b ha hb same

  -- Between p and q one carrier has gone on to the next place.
  module _ (p q : Placement) (gp : Good Y p) (gq : Good Y q) (len : length q ≡ length p) (m : Carrier)
      (others : (c : Carrier) → (c ≡ m → ⊥) → bay_of q c ≡ bay_of p c) (on : Next Y.bays (stands Y o p m) (stands Y o q m))
      (a b c : Carrier) (three : Three p a b c) where
    at_p : (d : Carrier) → d < length p → stands Y o p d < Y.bays
    at_p d h = stands-low p gp d h

    at-q : (d : Carrier) → d < length p → stands Y o q d < Y.bays
    at-q d h = stands-low q gq d (omega arith)

    differ : (d e : Carrier) → d < length p → e < length p → (d ≡ e → ⊥) → stands Y o p d ≡ stands Y o p e → ⊥
    differ d e hd he ne z = ne (stands-apart p gp d e hd he z)

    -- the places at q of two, one of which has not moved
    differ-q : (d e : Carrier) → d < length p → e < length p → (d ≡ e → ⊥) → stands Y o q d ≡ stands Y o q e → ⊥
    differ-q d e hd he ne z = ne (stands-apart q gq d e (omega arith) (omega arith) z)

    same : (d : Carrier) → (d ≡ m → ⊥) → stands Y o q d ≡ stands Y o p d
    same d ne = ap o.place (others d ne)

    on-at : (d : Carrier) → d ≡ m → Next Y.bays (stands Y o p d) (stands Y o q d)
    on-at d e = rw e on

    one_on : Before Y o p a b c ↔ Before Y o q a b c
    one_on =
        let n = Y.bays in
        let ha = three.a-there in
        let hb = three.b_there in
        let hc = three.c-there in
        let A = at_p a ha in
        let B = at_p b hb in
        let C = at_p c hc in
        let ab = differ a b ha hb three.ab in
        let ac = differ a c ha hc three.ac in
        let bc = differ b c hb hc three.bc in
        by_cases (eqb a m)
        (λ e.
        let is_m = eqb-true a m e in
        let b-same = same b (λ z. three.ab (is_m ∙ sym z)) in
        let c-same = same c (λ z. three.ac (is_m ∙ sym z)) in
        rw (b-same, c-same) (first_on n _ _ _ A B C ab ac bc (stands Y o q a) (at-q a ha) (on-at a is_m)))
        (λ ne-a.
        let a-same = same a (eqb-false a m ne-a) in
        by_cases (eqb b m)
        (λ e.
        let is_m = eqb-true b m e in
        let c-same = same c (λ z. three.bc (is_m ∙ sym z)) in
        rw (a-same, c-same)
        (second-on n _ _ _ A B C ab ac bc (stands Y o q b) (at-q b hb) (on-at b is_m)
        (rw a-same at (differ-q a b ha hb three.ab))
        (rw c-same at (differ-q b c hb hc three.bc))))
        (λ ne-b.
        let b-same = same b (eqb-false b m ne-b) in
        by_cases (eqb c m)
        (λ e.
        rw (a-same, b-same)
        (third-on n _ _ _ A B C ab ac bc (stands Y o q c) (at-q c hc) (on-at c (eqb-true c m e))
        (rw a-same at (differ-q a c ha hc three.ac))))
        (λ ne-c.
        let c-same = same c (eqb-false c m ne-c) in
        rw (a-same, b-same, c-same) (λ z. z, λ z. z))))

module _ (Y : Yard) (sound : Sound Y) (o : Round Y) where
  -- a legal crossing leads to a place next to the one it leaves
  pub next_place : (a b : Bay) → joined Y a b ≡ true → Next Y.bays (o.place a) (o.place b) ⊎ Next Y.bays (o.place b) (o.place a)
  next_place a b j =
      o.beside a b (low Y a (sound.inside b a (joined-sym Y a b j))) (low Y b (sound.inside a b j)) j

  move-good : (p : Placement) (x : Crossing) → Good Y p → Legal Y p x → Good Y (move p x)
  unfolding after legal_plan
  move-good p x good l = plan-good Y sound p (x ∷ []) good (plan-cons Y p x [] (legal-of Y p x l) refl)

  one_kept : (p : Placement) (x : Crossing) → Good Y p → Legal Y p x → (a b c : Carrier) → Three p a b c
      → Before Y o p a b c ↔ Before Y o (move p x) a b c
  one_kept p x good l a b c t =
      let q = move p x in
      let gq = move-good p x good l in
      let len : length q ≡ length p = length-set p x.carrier x.to in
      let others : (d : Carrier) → (d ≡ x.carrier → ⊥) → bay_of q d ≡ bay_of p d = λ d ne. move-other Y p x l d (ne_eqb d x.carrier ne) in
      let from : stands Y o p x.carrier ≡ o.place x.from = ap o.place l.stands in
      let to : stands Y o q x.carrier ≡ o.place x.to = ap o.place (move-self Y p x l) in
      ⊎_elim
      (λ k. one_on Y o p q good gq len x.carrier others (rw (from, to) k) a b c t)
      (λ k. flip (one_on Y o q p gq good (sym len) x.carrier (λ d ne. sym (others d ne)) (rw (from, to) k) a b c
      (record { a-there = rw len t.a-there; b_there = rw len t.b_there; c-there = rw len t.c-there; ab = t.ab; ac = t.ac; bc = t.bc })))
      (next_place x.from x.to l.rail)

  -- along any legal list
  list-kept : (p : Placement) (xs : List Crossing) → Good Y p → legal_plan Y p xs ≡ true → (a b c : Carrier) → Three p a b c
      → Before Y o p a b c ↔ Before Y o (after p xs) a b c
  unfolding after
  list-kept p [] good h a b c t = (λ z. z, λ z. z)
  list-kept p (x ∷ xs) good h a b c t =
      let l = legal-facts Y p x (plan-head Y p x xs h) in
      let len = length-set p x.carrier x.to in
      let e = one_kept p x good l a b c t in
      let f = list-kept (move p x) xs (move-good p x good l) (plan-tail Y p x xs h) a b c
      (record { a-there = rw len t.a-there; b_there = rw len t.b_there; c-there = rw len t.c-there; ab = t.ab; ac = t.ac; bc = t.bc }) in
      (λ z. f.0 (e.0 z), λ z. e.1 (f.1 z))

  -- The order around the ring is the same at every placement that a legal list leads to.
  pub order-kept : (p q : Placement) → Good Y p → Leads Y p q → (a b c : Carrier) → Three p a b c → Before Y o p a b c ↔ Before Y o q a b c
  order-kept p q good l a b c t = rw l.ends at (list-kept p l.list good l.legal a b c t)
