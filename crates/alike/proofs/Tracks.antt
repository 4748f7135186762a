-- Crossings over the same tracks take alike placements to alike ones: a legal crossing empties the bay that it leaves and fills the one that it
-- enters, and whoever stood where it leaves stands where it enters.
-- Assumes nothing.
use Rattle.std.specs.Prelude.{if◌then◌else◌}
use mathlib.Core.Path.{◌≡◌, refl, sym, ◌∙◌, ap, ap₂}
use mathlib.Core.Bool.{true, false, not}
use mathlib.Core.List.{List, [], ◌∷◌, ◌++◌, map-append, reverse-cons}
use Prim.Native.Nat.{◌<◌}
use lib.Dec.{eqb}
use lib.ListN.{length, length-set}
use borrow.Author.Tests.{eqb-true, eqb-false, ne_eqb, eq-eqb}
use Rattle.paper.specs.Basics.{elem, In, Out}
use Rattle.paper.specs.Yard.{Bay, Carrier, Yard, Placement, Crossing, bay_of, carrier_at, is_empty, move, after, legal_plan, reverse_of}
use Rattle.paper.specs.Procedure.{shift, undo}
use Rattle.paper.proofs.Tests.{by_cases, never}
use Rattle.paper.proofs.Playing.{Apart, Legal, legal-facts, plan-head, plan-tail, bay-in, place_of-bay, place_of-there, move-self, move-other, move-apart, move-empties, move-out}
use Rattle.alike.specs.Alike.{Matched, track, tracks}

-- ## One crossing

module _ (Y : Yard) (p : Placement) (apart : Apart p) (x : Crossing) (l : Legal Y p x) where
  -- the bay entered is taken, and so is every other that was, but for the one left
  enters : In x.to (move p x)
  enters = rw (move-self Y p x l) at (bay-in (move p x) x.carrier (rw length-set l.there))

  stays-taken : (z : Bay) → In z p → (z ≡ x.from → ⊥) → In z (move p x)
  stays-taken z i n =
      let d = carrier_at p z in
      let stands : bay_of p d ≡ z = place_of-bay p z i in
      let other : eqb d x.carrier ≡ false = ne_eqb d x.carrier (λ e. n (sym stands ∙ ap (bay_of p) e ∙ l.stands)) in
      rw (move-other Y p x l d other ∙ stands) at (bay-in (move p x) d (rw length-set (place_of-there p z i)))

  -- Whether a bay is empty after a crossing: by its track, and by whether the bay was empty before.
  moved-empty : (z : Bay) → is_empty (move p x) z ≡ (if eqb z x.to then false else if eqb z x.from then true else is_empty p z)
  moved-empty z =
      by_cases (eqb z x.to)
      (λ e. let taken : In z (move p x) = rw (eqb-true z x.to e) enters in rw (e, taken))
      (λ e. by_cases (eqb z x.from)
      (λ f. let left : Out z (move p x) = rw (eqb-true z x.from f) (move-empties Y p x l apart) in rw (e, f, left))
      (λ f. rw (e, f) (ap not (by_cases (elem z p)
      (λ i. stays-taken z i (eqb-false z x.from f) ∙ sym i)
      (λ o. move-out Y p x l z o (eqb-false z x.to e) ∙ sym o)))))

  -- Where a carrier stands after it: by the track, and by where it stood.
  moved-bay : (c : Carrier) → c < length p → bay_of (move p x) c ≡ (if eqb (bay_of p c) x.from then x.to else bay_of p c)
  moved-bay c h =
      by_cases (eqb c x.carrier)
      (λ e.
      let same : c ≡ x.carrier = eqb-true c x.carrier e in
      let stands : bay_of p c ≡ x.from = ap (bay_of p) same ∙ l.stands in
      rw (eq-eqb (bay_of p c) x.from stands) (ap (bay_of (move p x)) same ∙ move-self Y p x l))
      (λ e.
      let other : eqb (bay_of p c) x.from ≡ false =
      ne_eqb (bay_of p c) x.from (λ s. eqb-false c x.carrier e (apart c x.carrier h l.there (s ∙ sym l.stands))) in
      rw other (move-other Y p x l c e))

-- ## Many crossings

module _ (Y : Yard) (r s r' s' : Carrier) where
  pub matched-move : (p q : Placement) (x y : Crossing) → Matched Y r s p r' s' q → Legal Y p x → Legal Y q y → track x ≡ track y
      → Matched Y r s (move p x) r' s' (move q y)
  matched-move p q x y m l k e =
      let from : x.from ≡ y.from = ap (λ (t : Bay × Bay). t.0) e in
      let to : x.to ≡ y.to = ap (λ (t : Bay × Bay). t.1) e in
      let first : bay_of p r ≡ bay_of q r' = m.first in
      let second : bay_of p s ≡ bay_of q s' = m.second in
      record {
        apart = move-apart Y p x l m.apart;
        apart' = move-apart Y q y k m.apart';
        alike = λ b i. rw (moved-empty Y p m.apart x l b, moved-empty Y q m.apart' y k b, from, to, m.alike b i);
        there = rw length-set m.there;
        there' = rw length-set m.there';
        first = rw (moved-bay Y p m.apart x l r m.there, moved-bay Y q m.apart' y k r' m.there', from, to, first);
        with = rw length-set m.with;
        with' = rw length-set m.with';
        second = rw (moved-bay Y p m.apart x l s m.with, moved-bay Y q m.apart' y k s' m.with', from, to, second);
      }

  pub matched-after : (p q : Placement) (xs ys : List Crossing) → Matched Y r s p r' s' q → legal_plan Y p xs ≡ true → legal_plan Y q ys ≡ true
      → tracks xs ≡ tracks ys → Matched Y r s (after p xs) r' s' (after q ys)
  unfolding after
  matched-after p q [] [] m h k e = m
  matched-after p q [] (y ∷ ys) m h k e = never (cc)
  matched-after p q (x ∷ xs) [] m h k e = never (cc)
  matched-after p q (x ∷ xs) (y ∷ ys) m h k e =
      matched-after (move p x) (move q y) xs ys
      (matched-move p q x y m (legal-facts Y p x (plan-head Y p x xs h)) (legal-facts Y q y (plan-head Y q y ys k)) (cc))
      (plan-tail Y p x xs h) (plan-tail Y q y ys k) (cc)

-- ## Tracks of lists

pub tracks-append : (xs xs' ys ys' : List Crossing) → tracks xs ≡ tracks xs' → tracks ys ≡ tracks ys' → tracks (xs ++ ys) ≡ tracks (xs' ++ ys')
tracks-append xs xs' ys ys' e f = map-append track xs ys ∙ ap₂ ◌++◌ e f ∙ sym (map-append track xs' ys')

-- a shift goes along its path
pub shift-tracks : (p q : Placement) (l : List Bay) → tracks (shift p l) ≡ tracks (shift q l)
unfolding shift
shift-tracks p q [] = refl
shift-tracks p q (a ∷ []) = refl
shift-tracks p q (a ∷ b ∷ l) = tracks-append (shift p (b ∷ l)) (shift q (b ∷ l)) _ _ (shift-tracks p q (b ∷ l)) refl

-- an undo goes back over the tracks
backwards : List (Bay × Bay) → List (Bay × Bay)
backwards [] = []
backwards (t ∷ ts) = backwards ts ++ ((t.1, t.0) ∷ [])

undo-backwards : (L M : Carrier) (xs : List Crossing) → tracks (undo L M xs) ≡ backwards (tracks xs)
unfolding undo reverse_of backwards
undo-backwards L M [] = refl
undo-backwards L M (x ∷ xs) = rw (reverse-cons, map-append, map-append, map-append) (ap (λ (ts : List (Bay × Bay)). ts ++ ((x.to, x.from) ∷ [])) (undo-backwards L M xs))

pub undo-tracks : (L M L' M' : Carrier) (xs ys : List Crossing) → tracks xs ≡ tracks ys → tracks (undo L M xs) ≡ tracks (undo L' M' ys)
undo-tracks L M L' M' xs ys e = undo-backwards L M xs ∙ ap backwards e ∙ sym (undo-backwards L' M' ys)
