-- A cut is the request's own, which specs/Trips says by names: it takes the lowest name at which a trip begins, and of its returns the last. There is no cut exactly
-- if there is no trip.
use mathlib.Core.Path.{◌≡◌, sym, ◌∙◌, ap, ap₂}
use mathlib.Core.Bool.{true, false}
use mathlib.Core.List.{List, [], ◌∷◌, ◌++◌}
use mathlib.Core.Logic.{◌↔◌}
use mathlib.Core.Option.{none, some}
use Prim.Native.Nat.{ℕ, zero, suc, ◌<◌, ◌-◌}
use native.Mathlib.Omega.{arith}
use lib.Dec.{ltb}
use lib.ListN.{length, take, drop}
use borrow.Author.Tests.{eqb-true, eqb-false, eq-eqb, ltb-true, ltb-false}
use Rattle.paper.specs.Yard.{Bay, Carrier, Crossing, named}
use Rattle.paper.proofs.Tests.{by_cases, by-option, never-some, none_from}
use Rattle.trips.specs.Trips.{enters, is_of, last_return, kept, cut, Trip, LowestTrip, CutAt}
use Rattle.trips.proofs.Dropping.{by-return, no_return}
use Rattle.trips.proofs.Shortened.{by-cut, no_cut}

-- the same of the crossings after the leaving
record Return (c : Carrier) (a : Bay) (xs : List Crossing) (j : ℕ) : Type 0 where
  there : j < length xs
  same : (named xs j).carrier ≡ c
  again : (named xs j).to ≡ a
  unused : (m : ℕ) → m < j → (named xs m).to ≡ a → (named xs m).carrier ≡ c

back-never : {P : Type 0} (c : Carrier) (a : Bay) (x : Crossing) (xs : List Crossing) → enters a x ≡ true → is_of c x ≡ true
    → last_return c a (x ∷ xs) ≡ none → P
unfolding last_return
back-never c a x xs e i h =
    by-option (last_return c a xs) (λ l. never-some 1 (sym (rw (e, i, l) at h))) (λ n l. never-some (suc n) (sym (rw (e, i, l) at h)))

past-none : (c : Carrier) (a : Bay) (x : Crossing) (xs : List Crossing) → enters a x ≡ false → last_return c a (x ∷ xs) ≡ none → last_return c a xs ≡ none
unfolding last_return
past-none c a x xs e h = none_from suc (last_return c a xs) (rw e at h)

return-on : (c : Carrier) (a : Bay) (x : Crossing) (xs : List Crossing) (j : ℕ) → Return c a (x ∷ xs) (suc j) → Return c a xs j
return-on c a x xs j r = record { there = let l = r.there in omega arith; same = r.same; again = r.again; unused = λ m l. r.unused (suc m) (omega arith) }

no-return-none : (c : Carrier) (a : Bay) (xs : List Crossing) → last_return c a xs ≡ none → (j : ℕ) → Return c a xs j → ⊥
no-return-none c a [] h j r = let l = r.there in omega arith
no-return-none c a (x ∷ xs) h zero r = back-never c a x xs (eq-eqb _ _ r.again) (eq-eqb _ _ r.same) h
no-return-none c a (x ∷ xs) h (suc j) r =
    by_cases (enters a x)
    (λ e. back-never c a x xs e (eq-eqb _ _ (r.unused 0 (omega arith) (eqb-true _ _ e))) h)
    (λ e. no-return-none c a xs (past-none c a x xs e h) j (return-on c a x xs j r))

-- the last of the returns is the crossing after n − 1 others
abbrev LastReturn : Carrier → Bay → List Crossing → ℕ → Type 0
LastReturn c a xs n = (j : ℕ) × (n ≡ suc j) × Return c a xs j × ((j' : ℕ) → j < j' → Return c a xs j' → ⊥)

last-return-is : (c : Carrier) (a : Bay) (xs : List Crossing) (n : ℕ) → last_return c a xs ≡ some n → LastReturn c a xs n
last-return-is c a [] n h = no_return c a n h
last-return-is c a (x ∷ xs) n h =
    by-return c a x xs n h
    (λ i e l z. (
      0,
      z,
      record { there = omega arith; same = eqb-true _ _ i; again = eqb-true _ _ e; unused = λ m k. absurd (omega arith) },
      beyond-first l,
    ))
    (λ i m l z. on m (last-return-is c a xs m l) z (λ t. eqb-true _ _ i))
    (λ i e m l z. on m (last-return-is c a xs m l) z (λ t. absurd (eqb-false _ _ e t)))
  where
    beyond-first : last_return c a xs ≡ none → (j' : ℕ) → 0 < j' → Return c a (x ∷ xs) j' → ⊥
    beyond-first l zero k r = omega arith
    beyond-first l (suc j') k r = no-return-none c a xs l j' (return-on c a x xs j' r)

    beyond : (j : ℕ) → ((j' : ℕ) → j < j' → Return c a xs j' → ⊥) → (j' : ℕ) → suc j < j' → Return c a (x ∷ xs) j' → ⊥
    beyond j f zero k r = omega arith
    beyond j f (suc j') k r = f j' (omega arith) (return-on c a x xs j' r)

    between : (j : ℕ) → (x.to ≡ a → x.carrier ≡ c) → Return c a xs j → (m : ℕ) → m < suc j → (named (x ∷ xs) m).to ≡ a → (named (x ∷ xs) m).carrier ≡ c
    between j f r zero k t = f t
    between j f r (suc m) k t = r.unused m (omega arith) t

    on : (m : ℕ) → LastReturn c a xs m → n ≡ suc m → (x.to ≡ a → x.carrier ≡ c) → LastReturn c a (x ∷ xs) n
    on m ih z f =
        let r = ih.2 in (
          suc ih.0,
          z ∙ ap suc ih.1,
          record { there = let k = r.there in omega arith; same = r.same; again = r.again; unused = between ih.0 f r },
          beyond ih.0 ih.3,
        )

-- a trip that begins with the first crossing is a return after it
trip-return : (x : Crossing) (xs : List Crossing) (j : ℕ) → Trip (x ∷ xs) 0 (suc j) → Return x.carrier x.from xs j
trip-return x xs j t = record {
  there = let l = t.there in omega arith;
  same = t.same;
  again = t.again;
  unused = λ m l. t.unused (suc m) (omega arith) (omega arith);
}

trip-on : (x : Crossing) (xs : List Crossing) (i j : ℕ) → Trip (x ∷ xs) (suc i) (suc j) → Trip xs i j
trip-on x xs i j t = record {
  later = let l = t.later in omega arith;
  there = let l = t.there in omega arith;
  same = t.same;
  again = t.again;
  unused = λ m k l. t.unused (suc m) (omega arith) (omega arith);
}

-- no trip begins with the first crossing
first-not : (x : Crossing) (xs : List Crossing) → last_return x.carrier x.from xs ≡ none → (j : ℕ) → Trip (x ∷ xs) 0 j → ⊥
first-not x xs h zero t = let l = t.later in omega arith
first-not x xs h (suc j) t = no-return-none x.carrier x.from xs h j (trip-return x xs j t)

none_first : (x : Crossing) (xs : List Crossing) → cut (x ∷ xs) ≡ none → (last_return x.carrier x.from xs ≡ none) × (cut xs ≡ none)
unfolding cut
none_first x xs h =
    by-option (last_return x.carrier x.from xs)
    (λ l. (l, none_from (λ ys. x ∷ ys) (cut xs) (rw l at h)))
    (λ n l. never-some (kept x.carrier n xs) (sym (rw l at h)))

-- "until there is none"
pub no-trip : (xs : List Crossing) → cut xs ≡ none → (i j : ℕ) → Trip xs i j → ⊥
no-trip [] h i j t = let l = t.there in omega arith
no-trip (x ∷ xs) h zero j t = first-not x xs (none_first x xs h).0 j t
no-trip (x ∷ xs) h (suc i) zero t = let l = t.later in omega arith
no-trip (x ∷ xs) h (suc i) (suc j) t = no-trip xs (none_first x xs h).1 i j (trip-on x xs i j t)

return-trip : (x : Crossing) (xs : List Crossing) (j : ℕ) → Return x.carrier x.from xs j → Trip (x ∷ xs) 0 (suc j)
return-trip x xs j r = record { later = omega arith; there = let l = r.there in omega arith; same = r.same; again = r.again; unused = between }
  where
    between : (m : ℕ) → 0 < m → m < suc j → (named (x ∷ xs) m).to ≡ x.from → (named (x ∷ xs) m).carrier ≡ x.carrier
    between zero k l t = absurd (omega arith)
    between (suc m) k l t = r.unused m (omega arith) t

trip-back : (x : Crossing) (xs : List Crossing) (i j : ℕ) → Trip xs i j → Trip (x ∷ xs) (suc i) (suc j)
trip-back x xs i j t = record {
  later = let l = t.later in omega arith;
  there = let l = t.there in omega arith;
  same = t.same;
  again = t.again;
  unused = between;
}
  where
    between : (m : ℕ) → suc i < m → m < suc j → (named (x ∷ xs) m).to ≡ (named xs i).from → (named (x ∷ xs) m).carrier ≡ (named xs i).carrier
    between zero k l e = absurd (omega arith)
    between (suc m) k l e = t.unused m (omega arith) (omega arith) e

cut-first : (x : Crossing) (xs ys : List Crossing) (n : ℕ) → LastReturn x.carrier x.from xs n → kept x.carrier n xs ≡ ys → CutAt (x ∷ xs) ys
cut-first x xs ys n r e = record {
  name = 0;
  return = suc r.0;
  is_lowest = record { trip = return-trip x xs r.0 r.2; lowest = λ i' j' l. absurd (omega arith); last = later };
  leaves = sym e ∙ ap (λ k. kept x.carrier k xs) count;
}
  where
    count : n ≡ suc r.0 - 0
    count = let z = r.1 in omega arith

    later : (j' : ℕ) → suc r.0 < j' → Trip (x ∷ xs) 0 j' → ⊥
    later zero l t = omega arith
    later (suc j') l t = r.3 j' (omega arith) (trip-return x xs j' t)

cut_later : (x : Crossing) (xs ys zs : List Crossing) → last_return x.carrier x.from xs ≡ none → CutAt xs zs → x ∷ zs ≡ ys → CutAt (x ∷ xs) ys
cut_later x xs ys zs r at e =
    let i = at.name in
    let j = at.return in
    let low = at.is_lowest in
    let count : j - i ≡ suc j - suc i = omega arith in
    record {
      name = suc i;
      return = suc j;
      is_lowest = record { trip = trip-back x xs i j low.trip; lowest = lower; last = later };
      leaves = sym e ∙ ap (λ l. x ∷ l) (at.leaves ∙ ap (λ k. take i xs ++ kept (named xs i).carrier k (drop (suc i) xs)) count);
    }
  where
    lower : (i' j' : ℕ) → i' < suc at.name → Trip (x ∷ xs) i' j' → ⊥
    lower zero j' l t = first-not x xs r j' t
    lower (suc i') zero l t = let k = t.later in omega arith
    lower (suc i') (suc j') l t = at.is_lowest.lowest i' j' (omega arith) (trip-on x xs i' j' t)

    later : (j' : ℕ) → suc at.return < j' → Trip (x ∷ xs) (suc at.name) j' → ⊥
    later zero l t = omega arith
    later (suc j') l t = at.is_lowest.last j' (omega arith) (trip-on x xs at.name j' t)

-- a cut is the request's
pub cut-is : (xs ys : List Crossing) → cut xs ≡ some ys → CutAt xs ys
cut-is [] ys h = no_cut ys h
cut-is (x ∷ xs) ys h =
    by-cut x xs ys h
    (λ n r e. cut-first x xs ys n (last-return-is x.carrier x.from xs n r) e)
    (λ r zs z e. cut_later x xs ys zs r (cut-is xs zs z) e)

-- ## Exactly, from the words alone

-- there is one lowest trip at most, and one list that a cut of it leaves
lowest-one : (xs : List Crossing) (i j i' j' : ℕ) → LowestTrip xs i j → LowestTrip xs i' j' → (i ≡ i') × (j ≡ j')
lowest-one xs i j i' j' a b =
    by_cases (ltb i i')
    (λ l. absurd (b.lowest i j (ltb-true i i' l) a.trip))
    (λ l. by_cases (ltb i' i)
    (λ k. absurd (a.lowest i' j' (ltb-true i' i k) b.trip))
    (λ k.
    let e : i ≡ i' = let g = ltb-false i i' l in let h = ltb-false i' i k in omega arith in
    let t : Trip xs i j' = rw e b.trip in
    let u : Trip xs i' j = rw (← e) a.trip in (
      e,
      by_cases (ltb j j')
          (λ m. absurd (a.last j' (ltb-true j j' m) t))
          (λ m. by_cases (ltb j' j)
          (λ o. absurd (b.last j (ltb-true j' j o) u))
          (λ o. let g = ltb-false j j' m in let h = ltb-false j' j o in omega arith)),
    )))

pub cut-one : (xs ys zs : List Crossing) → CutAt xs ys → CutAt xs zs → ys ≡ zs
cut-one xs ys zs a b =
    let e = lowest-one xs a.name a.return b.name b.return a.is_lowest b.is_lowest in
    a.leaves ∙ ap₂ (λ i j. take i xs ++ kept (named xs i).carrier (j - i) (drop (suc i) xs)) e.0 e.1 ∙ sym b.leaves

-- "Take the lowest name": a cut leaves exactly what the request says.
pub cut-exactly : (xs ys : List Crossing) → (cut xs ≡ some ys) ↔ CutAt xs ys
cut-exactly xs ys = (
  cut-is xs ys,
  λ a. by-option (cut xs)
      (λ h. absurd (no-trip xs h a.name a.return a.is_lowest.trip))
      (λ zs h. h ∙ ap some (cut-one xs zs ys (cut-is xs zs h) a)),
)

-- "Repeat until there is none": there is no cut exactly if there is no trip.
pub no-trip-exactly : (xs : List Crossing) → (cut xs ≡ none) ↔ ((i j : ℕ) → Trip xs i j → ⊥)
no-trip-exactly xs = (
  no-trip xs,
  λ f. by-option (cut xs) (λ h. h) (λ ys h. let a = cut-is xs ys h in absurd (f a.name a.return a.is_lowest.trip)),
)
