-- Which leavings a cut can make the start of a trip: those whose next entering of the bay it drops. In a legal plan that is the last
-- leaving of the bay before the dropped crossing, so it is enough to look there.
use mathlib.Core.Path.{◌≡◌, refl, sym, ◌∙◌, ap}
use mathlib.Core.Bool.{Bool, true, false}
use mathlib.Core.List.{List, [], ◌∷◌, ◌++◌}
use mathlib.Core.Option.{Option, none, some}
use Prim.Native.Nat.{ℕ, zero, suc, ◌≤◌, ◌<◌, ◌+◌, ◌-◌}
use native.Mathlib.Omega.{arith}
use lib.ListN.{length, get_or, take, drop, length-drop}
use lib.Seq.{get_or-drop}
use borrow.Author.Tests.{eqb-true, eqb-false}
use Rattle.paper.specs.Basics.{◌>>=◌, or_else}
use Rattle.paper.specs.Yard.{Bay, Carrier, Yard, Placement, Crossing, crossing, legal_plan, named}
use Rattle.paper.proofs.Tests.{by_cases, never-some, none_from}
use Rattle.paper.proofs.Playing.{Apart}
use Rattle.trips.specs.Trips.{enters, is_of}
use Rattle.trips.specs.Names.{left, last_place, without_own, drop_trip}
use Rattle.trips.proofs.Naming.{by_byte, place-past, place-back, place-barred, NoTrip}
use Rattle.trips.proofs.Alternating.{two-leave}

back_some : {P : Type 0} (o : Option ℕ) → or_else (o >>= λ n. some (suc n)) (some 0) ≡ none → P
back_some none h = never-some 0 (sym h)
back_some (some n) h = never-some (suc n) (sym h)

-- Where no trip begins, and the first crossing into the bay stays in the plan, no trip begins after others are dropped.
pub still-none : (c : Carrier) (a : Bay) (gs hs : List ℕ) (xs : List Crossing) → length gs ≡ length xs → length hs ≡ length gs
    → last_place c a gs xs ≡ none
    → ((m : ℕ) → get_or hs m 0 ≡ 0 → m < length gs → get_or gs m 0 ≡ 0)
    → ((e : ℕ) → e < length gs → get_or gs e 0 ≡ 0 → (named xs e).to ≡ a → ((m : ℕ) → m < e → get_or gs m 0 ≡ 0 → (named xs m).to ≡ a → ⊥) → get_or hs e 0 ≡ 0)
    → last_place c a hs xs ≡ none
unfolding last_place
still-none c a gs [] xs len same h fewer first = refl
still-none c a gs (h₀ ∷ hs) [] len same h fewer first = refl
still-none c a [] (h₀ ∷ hs) (x ∷ xs) len same h fewer first = absurd (omega arith)
still-none c a (g ∷ gs) (h₀ ∷ hs) (x ∷ xs) len same h fewer first =
    let past : (g ≡ 0 → enters a x ≡ false) → last_place c a (h₀ ∷ hs) (x ∷ xs) ≡ none =
    λ q.
    let none-later = none_from suc (last_place c a gs xs) (sym (place-past c a g gs x xs q) ∙ h) in
    let ih = still-none c a gs hs xs (omega arith) (omega arith) none-later
    (λ m z l. fewer (suc m) z (omega arith))
    (λ e l z t n. first (suc e) (omega arith) z t (λ m. not-before q n m)) in
    place-past c a h₀ hs x xs (λ z. q (fewer 0 z (omega arith))) ∙ ap (λ o. o >>= λ n. some (suc n)) ih in
    by_byte g
    (λ z. by_cases (enters a x)
    (λ e. by_cases (is_of c x)
    (λ i. back_some (last_place c a gs xs) (sym (place-back c a g gs x xs z e i) ∙ h))
    (λ i. place-barred c a h₀ hs x xs (first 0 (omega arith) z (eqb-true _ _ e) (λ m l. absurd (omega arith))) e i))
    (λ e. past (λ y. e)))
    (λ z. past (λ y. absurd (z y)))
  where
    not-before : (g ≡ 0 → enters a x ≡ false) → {e : ℕ} → ((m : ℕ) → m < e → get_or gs m 0 ≡ 0 → (named xs m).to ≡ a → ⊥)
        → (m : ℕ) → m < suc e → get_or (g ∷ gs) m 0 ≡ 0 → (named (x ∷ xs) m).to ≡ a → ⊥
    not-before q n zero l z t = eqb-false _ _ (q z) t
    not-before q n (suc m) l z t = n m (omega arith) z t

-- ## What dropping does, name by name

pub own-length : (c : Carrier) (n : ℕ) (gs : List ℕ) (xs : List Crossing) → length (without_own c n gs xs) ≡ length gs
unfolding without_own
own-length c n [] xs = refl
own-length c n (g ∷ gs) [] = refl
own-length c zero (g ∷ gs) (x ∷ xs) = refl
own-length c (suc n) (g ∷ gs) (x ∷ xs) =
    by_cases (is_of c x) (λ i. rw i (ap suc (own-length c n gs xs))) (λ i. rw i (ap suc (own-length c n gs xs)))

own-fewer : (c : Carrier) (n : ℕ) (gs : List ℕ) (xs : List Crossing) (m : ℕ) → get_or (without_own c n gs xs) m 0 ≡ 0 → m < length gs → get_or gs m 0 ≡ 0
unfolding without_own
own-fewer c n [] xs m h l = absurd (omega arith)
own-fewer c n (g ∷ gs) [] m h l = h
own-fewer c zero (g ∷ gs) (x ∷ xs) m h l = h
own-fewer c (suc n) (g ∷ gs) (x ∷ xs) zero h l =
    by_cases (is_of c x) (λ i. let z : ◌≡◌ {A = ℕ} 1 0 = rw i at h in absurd (omega arith)) (λ i. rw i at h)
own-fewer c (suc n) (g ∷ gs) (x ∷ xs) (suc m) h l =
    by_cases (is_of c x) (λ i. own-fewer c n gs xs m (rw i at h) (omega arith)) (λ i. own-fewer c n gs xs m (rw i at h) (omega arith))

own-stays : (c : Carrier) (n : ℕ) (gs : List ℕ) (xs : List Crossing) (m : ℕ) → get_or gs m 0 ≡ 0 → (m < n → (named xs m).carrier ≡ c → ⊥)
    → get_or (without_own c n gs xs) m 0 ≡ 0
unfolding without_own
own-stays c n [] xs m h k = h
own-stays c n (g ∷ gs) [] m h k = h
own-stays c zero (g ∷ gs) (x ∷ xs) m h k = h
own-stays c (suc n) (g ∷ gs) (x ∷ xs) zero h k =
    by_cases (is_of c x) (λ i. absurd (k (omega arith) (eqb-true _ _ i))) (λ i. rw i h)
own-stays c (suc n) (g ∷ gs) (x ∷ xs) (suc m) h k =
    let ih = own-stays c n gs xs m h (λ l. k (omega arith)) in
    by_cases (is_of c x) (λ i. rw i ih) (λ i. rw i ih)

pub trip-length : (c : Carrier) (i n : ℕ) (gs : List ℕ) (xs : List Crossing) → length (drop_trip c i n gs xs) ≡ length gs
unfolding without_own
trip-length c zero n gs xs = own-length c n gs xs
trip-length c (suc i) n [] xs = refl
trip-length c (suc i) n (g ∷ gs) [] = ap suc (rest i gs)
  where
    rest : (i : ℕ) (gs : List ℕ) → length (take i gs ++ without_own c n (drop i gs) []) ≡ length gs
    rest zero gs = own-length c n gs []
    rest (suc i) [] = refl
    rest (suc i) (g ∷ gs) = ap suc (rest i gs)
trip-length c (suc i) n (g ∷ gs) (x ∷ xs) = ap suc (trip-length c i n gs xs)

module _ (c : Carrier) (n : ℕ) where
  pub trip-fewer : (i : ℕ) (gs : List ℕ) (xs : List Crossing) → length gs ≡ length xs → (m : ℕ) → get_or (drop_trip c i n gs xs) m 0 ≡ 0 → m < length gs
      → get_or gs m 0 ≡ 0
  trip-fewer zero gs xs len m h l = own-fewer c n gs xs m h l
  trip-fewer (suc i) [] xs len m h l = absurd (omega arith)
  trip-fewer (suc i) (g ∷ gs) [] len m h l = absurd (omega arith)
  trip-fewer (suc i) (g ∷ gs) (x ∷ xs) len zero h l = h
  trip-fewer (suc i) (g ∷ gs) (x ∷ xs) len (suc m) h l = trip-fewer i gs xs (omega arith) m h (omega arith)

  pub trip-stays : (i : ℕ) (gs : List ℕ) (xs : List Crossing) → length gs ≡ length xs → (m : ℕ) → m < length gs → get_or gs m 0 ≡ 0
      → (i ≤ m → m < i + n → (named xs m).carrier ≡ c → ⊥) → get_or (drop_trip c i n gs xs) m 0 ≡ 0
  trip-stays zero gs xs len m l h k = own-stays c n gs xs m h (λ j. k (omega arith) (omega arith))
  trip-stays (suc i) [] xs len m l h k = absurd (omega arith)
  trip-stays (suc i) (g ∷ gs) [] len m l h k = absurd (omega arith)
  trip-stays (suc i) (g ∷ gs) (x ∷ xs) len zero l h k = h
  trip-stays (suc i) (g ∷ gs) (x ∷ xs) len (suc m) l h k =
      trip-stays i gs xs (omega arith) m (omega arith) h (λ u v. k (omega arith) (omega arith))

-- ## Which names are to be looked at again

-- k is the last leaving of b before e
pub record LastLeaving (gs : List ℕ) (xs : List Crossing) (b : Bay) (e k : ℕ) : Type 0 where
  pub before : k < e
  pub stays : get_or gs k 0 ≡ 0
  pub leaves : (named xs k).from ≡ b
  pub last : (m : ℕ) → k < m → m < e → get_or gs m 0 ≡ 0 → (named xs m).from ≡ b → ⊥

-- For each of c's crossings among the n from the name i on, the last leaving of the bay that it enters is to be looked at again.
-- It is in the set then; below `low` the set has not changed.
pub record Noted (gs : List ℕ) (xs : List Crossing) (c : Carrier) (i n : ℕ) (todo todo' : ℕ → Bool) (low : ℕ) : Type 0 where
  pub fewer : (k : ℕ) → todo' k ≡ false → todo k ≡ false
  pub below : (k : ℕ) → k < low → todo' k ≡ todo k
  pub noted : (e k : ℕ) → i ≤ e → e < i + n → e < length gs → get_or gs e 0 ≡ 0 → (named xs e).carrier ≡ c → LastLeaving gs xs (named xs e).to e k
      → todo' k ≡ false → ⊥

module _ (Y : Yard) (s : Placement) (apart : Apart s) (gs : List ℕ) (xs : List Crossing) (len : length gs ≡ length xs) (lawful : legal_plan Y s (left gs xs) ≡ true) where
  -- Where every name that need not be looked at began no trip, none of them does after the cut.
  pub freed : (c : Carrier) (i n : ℕ) (todo todo' : ℕ → Bool) (low : ℕ) → Noted gs xs c i n todo todo' low
      → ((k : ℕ) → k < length gs → get_or gs k 0 ≡ 0 → todo k ≡ false → NoTrip gs xs k)
      → (k : ℕ) → k < length gs → get_or (drop_trip c i n gs xs) k 0 ≡ 0 → todo' k ≡ false → NoTrip (drop_trip c i n gs xs) xs k
  freed c i n todo todo' low noted tested k l z t =
      let hs = drop_trip c i n gs xs in
      let long : length hs ≡ length gs = trip-length c i n gs xs in
      let here : get_or gs k 0 ≡ 0 = trip-fewer c n i gs xs len k z l in
      let x = named xs k in
      let bytes : (m : ℕ) → get_or (drop (suc k) gs) m 0 ≡ get_or gs (suc k + m) 0 = λ m. get_or-drop (suc k) gs m 0 in
      let bytes' : (m : ℕ) → get_or (drop (suc k) hs) m 0 ≡ get_or hs (suc k + m) 0 = λ m. get_or-drop (suc k) hs m 0 in
      let names : (m : ℕ) → named (drop (suc k) xs) m ≡ named xs (suc k + m) = λ m. get_or-drop (suc k) xs m (crossing 0 0 0) in
      still-none x.carrier x.from (drop (suc k) gs) (drop (suc k) hs) (drop (suc k) xs)
      (omega (arith, length-drop (suc k) gs, length-drop (suc k) xs))
      (omega (arith, length-drop (suc k) gs, length-drop (suc k) hs))
      (tested k l here (noted.fewer k t))
      (λ m y j. bytes m ∙ trip-fewer c n i gs xs len (suc k + m) (sym (bytes' m) ∙ y) (omega (arith, length-drop (suc k) gs)))
      (λ e j y b n₀.
      let within : suc k + e < length gs = omega (arith, length-drop (suc k) gs) in
      let into : (named xs (suc k + e)).to ≡ x.from = ap (λ q. q.to) (sym (names e)) ∙ b in
      bytes' e ∙ trip-stays c n i gs xs len (suc k + e) within (sym (bytes e) ∙ y)
      (λ u v w.
      noted.noted (suc k + e) k u v within (sym (bytes e) ∙ y) w
      (record {
        before = omega arith;
        stays = here;
        leaves = sym into;
        last = λ m p q y' f.
            two-leave Y x.from s gs xs len apart lawful k m p (omega arith) here y' refl (f ∙ into)
            (λ m' p' q' w' f'.
            let d = m' - suc k in
            let is : suc k + d ≡ m' = omega arith in
            n₀ d (omega arith) (bytes d ∙ ap (λ q. get_or gs q 0) is ∙ w') (ap (λ q. q.to) (names d ∙ ap (named xs) is) ∙ f'));
      })
      t))
