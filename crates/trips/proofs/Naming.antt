-- Cuts on a plan whose crossings keep their places are cuts on what is still in it: a dropped crossing is passed over by every rule.
use mathlib.Core.Path.{◌≡◌, refl, sym, ◌∙◌, ap}
use mathlib.Core.Bool.{true, false}
use mathlib.Core.List.{List, [], ◌∷◌, map}
use mathlib.Core.Option.{none, some}
use Prim.Native.Nat.{ℕ, zero, suc, ◌<◌}
use native.Mathlib.Omega.{arith}
use lib.Dec.{eqb}
use lib.ListN.{length, get_or, drop, replicate}
use borrow.Author.Tests.{eqb-true, eqb-false, eq-eqb, ne_eqb}
use Rattle.paper.specs.Basics.{◌>>=◌, or_else}
use Rattle.paper.specs.Yard.{Bay, Carrier, Crossing, named}
use Rattle.paper.proofs.Tests.{by_cases, by-option, some_same, never-some}
use Rattle.trips.specs.Trips.{enters, is_of, last_return, kept, cut}
use Rattle.trips.specs.Names.{left, last_place, without_own, drop_trip}
use Rattle.trips.proofs.Dropping.{kept-own, kept-other, kept-zero}

module _ {A : Type 0} where
  pub left_in : (g : ℕ) (gs : List ℕ) (x : A) (xs : List A) → g ≡ 0 → left (g ∷ gs) (x ∷ xs) ≡ x ∷ left gs xs
  unfolding left
  left_in g gs x xs e = rw (eq-eqb g 0 e)

  pub left_out : (g : ℕ) (gs : List ℕ) (x : A) (xs : List A) → (g ≡ 0 → ⊥) → left (g ∷ gs) (x ∷ xs) ≡ left gs xs
  unfolding left
  left_out g gs x xs e = rw (ne_eqb g 0 e)

  -- nothing is dropped yet
  pub left-all : (xs : List A) → left (replicate (length xs) 0) xs ≡ xs
  unfolding left
  left-all [] = refl
  left-all (x ∷ xs) = ap (λ ys. x ∷ ys) (left-all xs)

pub left-map : {A B : Type 0} (f : A → B) (gs : List ℕ) (xs : List A) → left gs (map f xs) ≡ map f (left gs xs)
unfolding left
left-map f [] xs = refl
left-map f (g ∷ gs) [] = refl
left-map f (g ∷ gs) (x ∷ xs) =
    by_cases (eqb g 0) (λ e. rw e (ap (λ ys. f x ∷ ys) (left-map f gs xs))) (λ e. rw e (left-map f gs xs))

-- The four ways in which the last return goes: the crossing is dropped or leads elsewhere; c returns, for the last time or not; another enters.
module _ (c : Carrier) (a : Bay) (g : ℕ) (gs : List ℕ) (x : Crossing) (xs : List Crossing) where
  pub place-past : (g ≡ 0 → enters a x ≡ false) → last_place c a (g ∷ gs) (x ∷ xs) ≡ (last_place c a gs xs >>= λ n. some (suc n))
  unfolding last_place
  place-past h = by_cases (eqb g 0) (λ e. rw (e, h (eqb-true g 0 e))) (λ e. rw e)

  pub place-back : g ≡ 0 → enters a x ≡ true → is_of c x ≡ true
      → last_place c a (g ∷ gs) (x ∷ xs) ≡ or_else (last_place c a gs xs >>= λ n. some (suc n)) (some 0)
  unfolding last_place
  place-back z e i = rw (eq-eqb g 0 z, e, i)

  pub place-barred : g ≡ 0 → enters a x ≡ true → is_of c x ≡ false → last_place c a (g ∷ gs) (x ∷ xs) ≡ none
  unfolding last_place
  place-barred z e i = rw (eq-eqb g 0 z, e, i)

pub no_place : {P : Type 0} (c : Carrier) (a : Bay) (xs : List Crossing) (n : ℕ) → last_place c a [] xs ≡ some n → P
unfolding last_place
no_place c a xs n h = never-some n h

pub no-place-here : {P : Type 0} (c : Carrier) (a : Bay) (g : ℕ) (gs : List ℕ) (n : ℕ) → last_place c a (g ∷ gs) [] ≡ some n → P
unfolding last_place
no-place-here c a g gs n h = never-some n h

-- by whether a byte is 0
pub by_byte : {P : Type 0} (g : ℕ) → (g ≡ 0 → P) → ((g ≡ 0 → ⊥) → P) → P
by_byte g f h = by_cases (eqb g 0) (λ e. f (eqb-true g 0 e)) (λ e. h (eqb-false g 0 e))

-- no return: another carrier enters first, or nobody does
pub place_none : (c : Carrier) (a : Bay) (gs : List ℕ) (xs : List Crossing) → last_place c a gs xs ≡ none → last_return c a (left gs xs) ≡ none
unfolding left last_return last_place
place_none c a [] xs h = refl
place_none c a (g ∷ gs) [] h = refl
place_none c a (g ∷ gs) (x ∷ xs) h =
    by_cases (eqb g 0)
    (λ z. by_cases (enters a x)
    (λ e. by_cases (is_of c x)
    (λ i. by-option (last_place c a gs xs) (λ l. never-some 0 (sym (rw (z, e, i, l) at h))) (λ n l. never-some (suc n) (sym (rw (z, e, i, l) at h))))
    (λ i. rw (z, e, i)))
    (λ e. by-option (last_place c a gs xs)
    (λ l. rw (z, e, place_none c a gs xs l))
    (λ n l. never-some (suc n) (sym (rw (z, e, l) at h)))))
    (λ z. by-option (last_place c a gs xs) (λ l. rw z (place_none c a gs xs l)) (λ n l. never-some (suc n) (sym (rw (z, l) at h))))

-- The last return is that of what is still in the plan, and dropping up to it keeps what a cut keeps.
pub record Returns (c : Carrier) (a : Bay) (gs : List ℕ) (xs : List Crossing) (n : ℕ) : Type 0 where
  pub count : ℕ
  pub is_last : last_return c a (left gs xs) ≡ some count
  pub keeps : kept c count (left gs xs) ≡ left (without_own c (suc n) gs xs) xs

pub drop-zero : (c : Carrier) (gs : List ℕ) (xs : List Crossing) → without_own c 0 gs xs ≡ gs
unfolding without_own
drop-zero c [] xs = refl
drop-zero c (g ∷ gs) [] = refl
drop-zero c (g ∷ gs) (x ∷ xs) = refl

-- what is left after dropping: c's crossing goes, a dropped one stays away, another carrier's stays
module _ (c : Carrier) (n g : ℕ) (gs : List ℕ) (x : Crossing) (xs : List Crossing) where
  drop_own : is_of c x ≡ true → left (without_own c (suc n) (g ∷ gs) (x ∷ xs)) (x ∷ xs) ≡ left (without_own c n gs xs) xs
  unfolding without_own left
  drop_own i = rw i

  drop-gone : (g ≡ 0 → ⊥) → left (without_own c (suc n) (g ∷ gs) (x ∷ xs)) (x ∷ xs) ≡ left (without_own c n gs xs) xs
  unfolding without_own
  drop-gone z = by_cases (is_of c x) (λ i. drop_own i) (λ i. rw i (left_out g (without_own c n gs xs) x xs z))

  drop-other : is_of c x ≡ false → g ≡ 0 → left (without_own c (suc n) (g ∷ gs) (x ∷ xs)) (x ∷ xs) ≡ x ∷ left (without_own c n gs xs) xs
  unfolding without_own
  drop-other i z = rw i (left_in g (without_own c n gs xs) x xs z)

-- the same ways, of what is still in the plan
module _ (c : Carrier) (a : Bay) (x : Crossing) (ys : List Crossing) where
  return-past : enters a x ≡ false → last_return c a (x ∷ ys) ≡ (last_return c a ys >>= λ n. some (suc n))
  unfolding last_return
  return-past e = rw e

  return_back : enters a x ≡ true → is_of c x ≡ true → last_return c a (x ∷ ys) ≡ or_else (last_return c a ys >>= λ n. some (suc n)) (some 1)
  unfolding last_return
  return_back e i = rw (e, i)

-- the crossing is dropped already, or leads elsewhere
past : (c : Carrier) (a : Bay) (g : ℕ) (gs : List ℕ) (x : Crossing) (xs : List Crossing) (n : ℕ)
    → ((m : ℕ) → last_place c a gs xs ≡ some m → Returns c a gs xs m) → (g ≡ 0 → enters a x ≡ false)
    → last_place c a (g ∷ gs) (x ∷ xs) ≡ some n → Returns c a (g ∷ gs) (x ∷ xs) n
past c a g gs x xs n rest h k =
    by-option (last_place c a gs xs)
    (λ l. never-some n (rw (place-past c a g gs x xs h, l) at k))
    (λ m l.
    let same : suc m ≡ n = some_same (rw (place-past c a g gs x xs h, l) at k) in
    let r = rest m l in
    rw (← same) (by_byte g
    (λ z.
    let e = h z in
    let more : last_return c a (x ∷ left gs xs) ≡ some (suc r.count) = rw (return-past c a x (left gs xs) e, r.is_last) in
    record {
      count = suc r.count;
      is_last = rw (left_in g gs x xs z) more;
      keeps = rw (left_in g gs x xs z)
          (by_cases (is_of c x)
          (λ i. kept-own c r.count x (left gs xs) i ∙ r.keeps ∙ sym (drop_own c (suc m) g gs x xs i))
          (λ i. kept-other c r.count x (left gs xs) i ∙ ap (λ ys. x ∷ ys) r.keeps ∙ sym (drop-other c (suc m) g gs x xs i z)));
    })
    (λ z. record {
      count = r.count;
      is_last = rw (left_out g gs x xs z) r.is_last;
      keeps = rw (left_out g gs x xs z) (r.keeps ∙ sym (drop-gone c (suc m) g gs x xs z));
    })))

-- c returns here
back : (c : Carrier) (a : Bay) (g : ℕ) (gs : List ℕ) (x : Crossing) (xs : List Crossing) (n : ℕ)
    → ((m : ℕ) → last_place c a gs xs ≡ some m → Returns c a gs xs m) → g ≡ 0 → enters a x ≡ true → is_of c x ≡ true
    → last_place c a (g ∷ gs) (x ∷ xs) ≡ some n → Returns c a (g ∷ gs) (x ∷ xs) n
back c a g gs x xs n rest z e i k =
    by-option (last_place c a gs xs)
    (λ l.
    let same : 0 ≡ n = some_same (rw (place-back c a g gs x xs z e i, l) at k) in
    let one : last_return c a (x ∷ left gs xs) ≡ some 1 = rw (return_back c a x (left gs xs) e i, place_none c a gs xs l) in
    rw (← same) (record {
      count = 1;
      is_last = rw (left_in g gs x xs z) one;
      keeps = rw (left_in g gs x xs z)
          (kept-own c 0 x (left gs xs) i ∙ kept-zero c (left gs xs) ∙ ap (λ hs. left hs xs) (sym (drop-zero c gs xs)) ∙ sym (drop_own c 0 g gs x xs i));
    }))
    (λ m l.
    let same : suc m ≡ n = some_same (rw (place-back c a g gs x xs z e i, l) at k) in
    let r = rest m l in
    let more : last_return c a (x ∷ left gs xs) ≡ some (suc r.count) = rw (return_back c a x (left gs xs) e i, r.is_last) in
    rw (← same) (record {
      count = suc r.count;
      is_last = rw (left_in g gs x xs z) more;
      keeps = rw (left_in g gs x xs z) (kept-own c r.count x (left gs xs) i ∙ r.keeps ∙ sym (drop_own c (suc m) g gs x xs i));
    }))

pub place-some : (c : Carrier) (a : Bay) (gs : List ℕ) (xs : List Crossing) (n : ℕ) → last_place c a gs xs ≡ some n → Returns c a gs xs n
place-some c a [] xs n h = no_place c a xs n h
place-some c a (g ∷ gs) [] n h = no-place-here c a g gs n h
place-some c a (g ∷ gs) (x ∷ xs) n h =
    by_byte g
    (λ z. by_cases (enters a x)
    (λ e. by_cases (is_of c x)
    (λ i. back c a g gs x xs n (place-some c a gs xs) z e i h)
    (λ i. never-some n (sym (place-barred c a g gs x xs z e i) ∙ h)))
    (λ e. past c a g gs x xs n (place-some c a gs xs) (λ y. e) h))
    (λ z. past c a g gs x xs n (place-some c a gs xs) (λ y. absurd (z y)) h)

-- nothing between the crossing named k and the next return of its carrier: no trip begins there
abbrev pub NoTrip : List ℕ → List Crossing → ℕ → Type 0
NoTrip gs xs k = last_place (named xs k).carrier (named xs k).from (drop (suc k) gs) (drop (suc k) xs) ≡ none

pub cut-past : (x : Crossing) (ys zs : List Crossing) → last_return x.carrier x.from ys ≡ none → cut ys ≡ some zs → cut (x ∷ ys) ≡ some (x ∷ zs)
unfolding cut
cut-past x ys zs r e = rw (r, e)

pub cut-here : (x : Crossing) (ys : List Crossing) (n : ℕ) → last_return x.carrier x.from ys ≡ some n → cut (x ∷ ys) ≡ some (kept x.carrier n ys)
unfolding cut
cut-here x ys n r = rw r

pub cut-no : (x : Crossing) (ys : List Crossing) → last_return x.carrier x.from ys ≡ none → cut ys ≡ none → cut (x ∷ ys) ≡ none
unfolding cut
cut-no x ys r e = rw (r, e)

-- Where no trip begins below the name i, and one begins there, the cut drops its carrier's crossings up to the last return.
pub cut_at : (gs : List ℕ) (xs : List Crossing) (i n : ℕ) → i < length gs → length gs ≡ length xs → get_or gs i 0 ≡ 0
    → ((k : ℕ) → k < i → get_or gs k 0 ≡ 0 → NoTrip gs xs k)
    → last_place (named xs i).carrier (named xs i).from (drop (suc i) gs) (drop (suc i) xs) ≡ some n
    → cut (left gs xs) ≡ some (left (drop_trip (named xs i).carrier i (suc (suc n)) gs xs) xs)
cut_at [] xs i n h len z lower r = absurd (omega arith)
cut_at (g ∷ gs) [] i n h len z lower r = absurd (omega arith)
cut_at (g ∷ gs) (x ∷ xs) zero n h len z lower r =
    let t = place-some x.carrier x.from gs xs n r in
    rw (left_in g gs x xs z) (cut-here x (left gs xs) t.count t.is_last
    ∙ ap some (t.keeps ∙ sym (drop_own x.carrier (suc n) g gs x xs (eq-eqb x.carrier x.carrier refl))))
cut_at (g ∷ gs) (x ∷ xs) (suc i) n h len z lower r =
    let ih = cut_at gs xs i n (omega arith) (omega arith) z (λ k l y. lower (suc k) (omega arith) y) r in
    let rest = drop_trip (named xs i).carrier i (suc (suc n)) gs xs in
    by_byte g
    (λ y.
    let none_here = place_none x.carrier x.from gs xs (lower 0 (omega arith) y) in
    rw (left_in g gs x xs y) (cut-past x (left gs xs) (left rest xs) none_here ih ∙ ap some (sym (left_in g rest x xs y))))
    (λ y. rw (left_out g gs x xs y) (ih ∙ ap some (sym (left_out g rest x xs y))))

-- Where no trip begins at all there is no cut.
pub cut-ends : (gs : List ℕ) (xs : List Crossing) → length gs ≡ length xs → ((k : ℕ) → k < length gs → get_or gs k 0 ≡ 0 → NoTrip gs xs k)
    → cut (left gs xs) ≡ none
unfolding left cut
cut-ends [] xs len all = refl
cut-ends (g ∷ gs) [] len all = refl
cut-ends (g ∷ gs) (x ∷ xs) len all =
    let ih = cut-ends gs xs (omega arith) (λ k l y. all (suc k) (omega arith) y) in
    by_byte g
    (λ y. ap cut (left_in g gs x xs y) ∙ cut-no x (left gs xs) (place_none x.carrier x.from gs xs (all 0 (omega arith) y)) ih)
    (λ y. ap cut (left_out g gs x xs y) ∙ ih)
