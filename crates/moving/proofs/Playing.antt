-- A crossing changes the bay of one carrier, so only the two bays' entries change with it; and lists of crossings played one after
-- the other are their concatenation played.
-- Assumes nothing.
use mathlib.Core.Path.{◌≡◌, refl, sym, ap, ◌∙◌}
use mathlib.Core.Bool.{Bool, true, false, not}
use mathlib.Core.List.{List, [], ◌∷◌, ◌++◌, map, map-append, append-nil, append_assoc}
use Prim.Native.Nat.{ℕ, suc, ◌+◌, ◌≤◌, ◌<◌}
use native.Mathlib.Decide.{ℕ_discrete}
use native.Mathlib.Omega.{arith}
use lib.Dec.{eqb}
use lib.ListN.{length, get_or, set, take, length-set, length-append, length-map}
use lib.Seq.{get_or-set_same, get_or-set_other, sets, length-sets, sets-eq, take_at, length-take-le}
use borrow.Author.Tests.{eq-eqb, ne_eqb}
use Rattle.lists.proofs.Lists.{sets-append}
use Rattle.paper.specs.Basics.{◌and◌, ◌or◌, any, elem, place_of, In, Out}
use Rattle.paper.specs.Yard.{Bay, Carrier, Yard, Placement, Crossing, crossing, bay_of, carrier_at, is_empty, move, after, joined, pack}
use Rattle.paper.proofs.Tests.{by_cases, not-both}
use Rattle.paper.proofs.Members.{Out-head, Out-tail}
use Rattle.paper.proofs.Playing.{Apart, Legal, after-append, place_of-bay, place_of-there, bay-in, move-self, move-other, move-apart, move-empties, move-out}
use Rattle.words.specs.Sets.{mem}
use Rattle.moving.specs.Placed.{Placed, Stored, Played, MovedOn, Unchanged}

-- ## Stored numbers

pub stored-none : (out : List ℕ) (at : ℕ) → Stored [] out at out
stored-none out at = record { long = refl; front = λ h. let z : at + 0 ≡ at = omega arith in rw z (sym (append-nil (take at out))) }

-- numbers set in the list are stored
pub stored_exact : {vs out out' : List ℕ} {at : ℕ} → out' ≡ sets out at vs → Stored vs out at out'
stored_exact {vs} {out} {out'} {at} e = record {
  long = ap length e ∙ length-sets out at vs;
  front = λ h.
      let size : length (take at out ++ vs) ≡ at + length vs = rw (length-append, length-take-le at out (omega arith)) in
      rw (e, sets-eq vs out at h) (take_at (take at out ++ vs) _ (at + length vs) size);
}

-- one list of numbers after another
pub stored-then : {vs ws out out₁ out' : List ℕ} {at m : ℕ} → m ≡ at + length vs → Stored vs out at out₁ → Stored ws out₁ m out' → Stored (vs ++ ws) out at out'
stored-then {vs} {ws} {out} {out₁} {out'} {at} {m} e a b = record {
  long = b.long ∙ a.long;
  front = λ h.
      let all : at + length (vs ++ ws) ≡ m + length ws = rw length-append (omega arith) in
      rw (all, b.front (omega (arith, a.long)), e, a.front (omega arith), append_assoc);
}

-- ## Crossings

-- nothing played
pub played-none : (n : ℕ) (p standing empty out : List ℕ) (at : ℕ) → Placed n p standing empty → Played [] n p p standing empty out at out at
unfolding after
played-none n p standing empty out at k = record { moved = refl; placed = k; stored = stored-none out at; counted = omega arith }

-- Played, but for the lists that go with the placement; each number is set in the list
pub record Told (xs : List Crossing) (p p' out : List ℕ) (at : ℕ) (out' : List ℕ) (r : ℕ) : Type 0 where
  pub moved : p' ≡ after p xs
  pub stored : out' ≡ sets out at (map pack xs)
  pub counted : r ≡ at + length xs

-- one list of crossings after another
pub told-then : {xs ys : List Crossing} {p q p' out out₁ out' : List ℕ} {at m r : ℕ}
    → Told xs p q out at out₁ m → Told ys q p' out₁ m out' r → Told (xs ++ ys) p p' out at out' r
told-then {xs} {ys} {p} {out = out} {at = at} a b = record {
  moved = b.moved ∙ ap (λ (q : List ℕ). after q ys) a.moved ∙ sym (after-append p xs ys);
  stored = b.stored ∙ rw (a.stored, a.counted, map-append, sets-append, length-map);
  counted = b.counted ∙ rw (a.counted, length-append) (omega arith);
}

pub played-then : {n : ℕ} {xs ys : List Crossing} {p q p' standing standing' empty empty' out out₁ out' : List ℕ} {at m r : ℕ}
    → Played xs n p q standing empty out at out₁ m → Played ys n q p' standing' empty' out₁ m out' r → Played (xs ++ ys) n p p' standing' empty' out at out' r
played-then {xs = xs} {ys = ys} {p = p} a b = record {
  moved = b.moved ∙ ap (λ (q : List ℕ). after q ys) a.moved ∙ sym (after-append p xs ys);
  placed = b.placed;
  stored = rw map-append (stored-then (a.counted ∙ rw length-map) a.stored b.stored);
  counted = b.counted ∙ rw (a.counted, length-append) (omega arith);
}

pub unchanged : (p standing empty out : List ℕ) → Unchanged p standing empty out p standing empty out
unchanged p standing empty out = record { same_placement = refl; same_standing = refl; same_empty = refl; same_list = refl }

-- ## One crossing

-- the carrier at z is the one whose bay it is
pub carrier-is : (p : Placement) (z : Bay) (c : Carrier) → Apart p → c < length p → bay_of p c ≡ z → carrier_at p z ≡ c
carrier-is p z c apart h e =
    let i : In z p = rw e at (bay-in p c h) in
    apart (carrier_at p z) c (place_of-there p z i) h (place_of-bay p z i ∙ sym e)

-- at an empty bay there is none
pub carrier-none : (p : Placement) (z : Bay) → Out z p → carrier_at p z ≡ length p
unfolding place_of
carrier-none [] z o = refl
carrier-none (y ∷ p) z o = rw (ne_eqb z y (Out-head z y p o)) (ap suc (carrier-none p z (Out-tail z y p o)))

pub stands-there : {n : ℕ} {p standing empty : List ℕ} {a : Bay} → Placed n p standing empty → In a p → a < n → get_or standing a 0 < length p
stands-there {p = p} {a = a} k i h = rw (k.stands a h) (place_of-there p a i)

pub neither : (t : Bool) → (not t and not false) or false ≡ not t
unfolding ◌and◌ ◌or◌
neither true = refl
neither false = refl

-- a yard with the one rail, in which the crossing is legal
abbrev one_rail : Bay → Bay → Yard
one_rail a b = record { bays = 0; rails = (a, b) ∷ [] }

one-joined : (a b : Bay) → joined (one_rail a b) a b ≡ true
unfolding joined any ◌and◌ ◌or◌
one-joined a b = rw (eq-eqb a a refl, eq-eqb b b refl)

-- who stands at each of the n bays says the same as the placement: Placed, but for the set of empty bays
pub record Stood (n : ℕ) (p standing : List ℕ) : Type 0 where
  pub apart : Apart p
  pub inside : (c : ℕ) → c < length p → bay_of p c < n
  pub few : length p ≤ n
  pub stands : (b : ℕ) → b < n → get_or standing b 0 ≡ carrier_at p b

pub stood : {n : ℕ} {p standing empty : List ℕ} → Placed n p standing empty → Stood n p standing
stood k = record { apart = k.apart; inside = k.inside; few = k.few; stands = k.stands }

module _ (p : Placement) (a b : Bay) (apart : Apart p) (i : In a p) (o : Out b p) where
  abbrev it : Crossing
  it = crossing (carrier_at p a) a b

  legal-it : Legal (one_rail a b) p it
  legal-it = record { there = place_of-there p a i; stands = place_of-bay p a i; rail = one-joined a b; free = o }

  apart-it : Apart (move p it)
  apart-it = move-apart (one_rail a b) p it legal-it apart

  leaves : Out a (move p it)
  leaves = move-empties (one_rail a b) p it legal-it apart

  arrives : In b (move p it)
  arrives =
      let h : carrier_at p a < length (move p it) = rw length-set (place_of-there p a i) in
      rw (move-self (one_rail a b) p it legal-it) at (bay-in (move p it) (carrier_at p a) h)

  -- other bays have whom they had
  same_at : (z : Bay) → (z ≡ a → ⊥) → (z ≡ b → ⊥) → (elem z (move p it) ≡ elem z p) × (carrier_at (move p it) z ≡ carrier_at p z)
  same_at z na nb =
      by_cases (elem z p)
      (λ y.
      let d : ℕ = carrier_at p z in
      let hd : d < length p = place_of-there p z y in
      let at-z : bay_of p d ≡ z = place_of-bay p z y in
      let other : eqb d (carrier_at p a) ≡ false = ne_eqb d (carrier_at p a) (λ e. na (sym at-z ∙ ap (bay_of p) e ∙ place_of-bay p a i)) in
      let still : bay_of (move p it) d ≡ z = move-other (one_rail a b) p it legal-it d other ∙ at-z in
      let h : d < length (move p it) = rw length-set hd in
      ((rw still at (bay-in (move p it) d h)) ∙ sym y, carrier-is (move p it) z d apart-it h still))
      (λ y.
      let out : Out z (move p it) = move-out (one_rail a b) p it legal-it z y nb in
      (out ∙ sym y, carrier-none (move p it) z out ∙ length-set p (carrier_at p a) b ∙ sym (carrier-none p z y)))

  -- b is not empty any more, and a is
  pub crossed-empty : (z : Bay) → is_empty (move p it) z ≡ (is_empty p z and not (eqb z b)) or eqb z a
  unfolding ◌and◌ ◌or◌
  crossed-empty z = elim (ℕ_discrete z a) [
    | yes e ↦ rw (e, leaves, eq-eqb a a refl, ne_eqb a b (λ q. not-both (rw q at i) o), i)
    | no e ↦ elim (ℕ_discrete z b) [
      | yes d ↦ rw (d, arrives, eq-eqb b b refl, ne_eqb b a (λ q. not-both (rw (← q) at i) o), o)
      | no d ↦ rw (ne_eqb z b d, ne_eqb z a e, (same_at z e d).0) (sym (neither (elem z p)))
    ]
  ]

  pub crossed-stood : {n : ℕ} {standing : List ℕ} → Stood n p standing → a < n → b < n → n ≤ length standing
      → Stood n (set p (get_or standing a 0) b) (set (set standing b (get_or standing a 0)) a (length p))
  crossed-stood {n} {standing} k ha hb hw =
      rw (k.stands a ha) (record {
        apart = apart-it;
        inside = λ c h. elim (ℕ_discrete c (carrier_at p a)) [
          | yes e ↦ rw (e, get_or-set_same p (carrier_at p a) b 0 (place_of-there p a i)) hb
          | no e ↦ rw (get_or-set_other p (carrier_at p a) c b 0 e) (k.inside c (rw length-set at h))
        ];
        few = rw length-set k.few;
        stands = λ z h. elim (ℕ_discrete z a) [
          | yes e ↦
              rw (e, get_or-set_same (set standing b (carrier_at p a)) a (length p) 0 (rw length-set (omega arith)))
              (sym (carrier-none (move p it) a leaves ∙ length-set p (carrier_at p a) b))
          | no e ↦ get_or-set_other (set standing b (carrier_at p a)) a z (length p) 0 e ∙ (elim (ℕ_discrete z b) [
            | yes d ↦
                rw (d, get_or-set_same standing b (carrier_at p a) 0 (omega arith))
                (sym (carrier-is (move p it) b (carrier_at p a) apart-it (rw length-set (place_of-there p a i)) (move-self (one_rail a b) p it legal-it)))
            | no d ↦ get_or-set_other standing b z (carrier_at p a) 0 d ∙ k.stands z h ∙ sym (same_at z e d).1
          ])
        ];
      })

-- the lists say the same as the placement where they say who stands where and which bays are empty
pub placed_of : {n : ℕ} {p standing empty : List ℕ} → Stood n p standing
    → ((z : ℕ) → z < n → mem empty z ≡ is_empty p z) → Placed n p standing empty
placed_of k e = record { apart = k.apart; inside = k.inside; few = k.few; stands = k.stands; empties = e }

module _ {p standing out : List ℕ} {a b : Bay} {at : ℕ} {p' standing₁ out' : List ℕ} {r : ℕ}
    (m : MovedOn a b p standing out at p' standing₁ out' r) where
  pub moved_length : length p' ≡ length p
  moved_length = ap length m.moved ∙ length-set p (get_or standing a 0) b

  -- the carrier moved on, and the two bays changed between empty and occupied
  pub crossed : {n : ℕ} {empty : List ℕ} (empty₁ empty' : List ℕ) → Placed n p standing empty → In a p → Out b p → a < n → b < n → n ≤ length standing
      → ((z : ℕ) → mem empty₁ z ≡ mem empty z and not (eqb z b)) → ((z : ℕ) → mem empty' z ≡ mem empty₁ z or eqb z a)
      → Played (crossing (carrier_at p a) a b ∷ []) n p p' (set standing₁ a (length p')) empty' out at out' r
  unfolding after
  crossed {n} empty₁ empty' k i o ha hb hw f g =
      let emptied : (z : ℕ) → z < n → mem empty' z ≡ is_empty (set p (get_or standing a 0) b) z =
      λ z h. g z ∙ rw (f z, k.empties z h, k.stands a ha) (sym (crossed-empty p a b k.apart i o z)) in
      let stands = crossed-stood p a b k.apart i o (stood k) ha hb hw in
      record {
        moved = m.moved ∙ rw (k.stands a ha);
        placed = rw (moved_length, m.moved, m.shown) (placed_of stands emptied);
        stored = stored_exact (m.stored ∙ rw (k.stands a ha));
        counted = m.counted;
      }
