-- Members of lists: what is found, filtered, lowest, counted, and stands there once.
use mathlib.Core.Logic.{◌↔◌}
use mathlib.Core.Path.{◌≡◌, refl, sym, ◌∙◌, ap}
use mathlib.Core.Bool.{Bool, true, false, not}
use mathlib.Core.List.{List, [], ◌∷◌, ◌++◌}
use mathlib.Core.Option.{Option, none, some}
use Prim.Native.Nat.{ℕ, zero, suc, ◌<◌, ◌≤◌, ◌+◌, min}
use native.Mathlib.Omega.{arith}
use lib.ListN.{length, get_or, take}
use lib.Dec.{eqb, ltb}
use borrow.Author.Tests.{not-true, eqb-true, eqb-false, eq-eqb, ltb-true, ltb-false}
use Rattle.paper.specs.Basics.{◌or◌, without, filter, any, find, first_of, elem, count_from, In, NoDup, Out, up_to, lowest_of, highest_of}
use Rattle.paper.proofs.Tests.{some_same, by_cases, by-option, not-both, never-some}

module _ {A : Type 0} (q : A → Bool) where
  pub find-passes : (xs : List A) {x : A} → find q xs ≡ some x → q x ≡ true
  unfolding find
  find-passes [] e = cc
  find-passes (y ∷ ys) e = by_cases (q y) (λ h. let k = rw h at e in cc) (λ h. let k = rw h at e in find-passes ys k)

pub In-head : (x : ℕ) (xs : List ℕ) → In x (x ∷ xs)
unfolding elem
In-head x xs = rw (eq-eqb x x refl)

pub In-tail : (x y : ℕ) (xs : List ℕ) → In x xs → In x (y ∷ xs)
unfolding elem
In-tail x y xs h = by_cases (eqb x y) (λ e. rw e) (λ e. rw e h)

pub In-cases : {P : Type 0} (x y : ℕ) (xs : List ℕ) → In x (y ∷ xs) → (x ≡ y → P) → (In x xs → P) → P
unfolding elem
In-cases x y xs h f g = by_cases (eqb x y) (λ e. f (eqb-true x y e)) (λ e. g (rw e at h))

pub In-nil : {P : Type 0} (x : ℕ) → In x [] → P
unfolding elem
In-nil x h = not-both h refl

pub In-one : (x y : ℕ) → In x (y ∷ []) → x ≡ y
In-one x y h = In-cases x y [] h (λ e. e) (λ e. In-nil x e)

-- what one member more changes
pub elem-last : (b : ℕ) (xs : List ℕ) (x : ℕ) → elem b (xs ++ (x ∷ [])) ≡ elem b xs or eqb b x
unfolding elem ◌or◌
elem-last b [] x = by_cases (eqb b x) (λ e. rw e) (λ e. rw e)
elem-last b (y ∷ xs) x = by_cases (eqb b y) (λ e. rw e) (λ e. rw e (elem-last b xs x))

pub In-append-left : (x : ℕ) (xs ys : List ℕ) → In x xs → In x (xs ++ ys)
In-append-left x [] ys h = In-nil x h
In-append-left x (y ∷ xs) ys h =
    In-cases x y xs h (λ e. rw e (In-head y (xs ++ ys))) (λ k. In-tail x y (xs ++ ys) (In-append-left x xs ys k))

pub In-append-right : (x : ℕ) (xs ys : List ℕ) → In x ys → In x (xs ++ ys)
In-append-right x [] ys h = h
In-append-right x (y ∷ xs) ys h = In-tail x y (xs ++ ys) (In-append-right x xs ys h)

pub In-append : {P : Type 0} (x : ℕ) (xs ys : List ℕ) → In x (xs ++ ys) → (In x xs → P) → (In x ys → P) → P
In-append x [] ys h f g = g h
In-append x (y ∷ xs) ys h f g =
    In-cases x y (xs ++ ys) h (λ e. f (rw e (In-head y xs))) (λ k. In-append x xs ys k (λ i. f (In-tail x y xs i)) g)

module _ (q : ℕ → Bool) where
  pub find-in : (xs : List ℕ) {x : ℕ} → find q xs ≡ some x → In x xs
  unfolding find
  find-in [] e = cc
  find-in (y ∷ ys) {x} e =
      by_cases (q y)
      (λ h. let k = rw h at e in let i : y ≡ x = cc in rw i (In-head x ys))
      (λ h. In-tail x y ys (find-in ys (rw h at e)))

  -- what passes and is there is found, or something before it
  pub find-some : (xs : List ℕ) (x : ℕ) → In x xs → q x ≡ true → (y : ℕ) × (find q xs ≡ some y)
  unfolding find
  find-some [] x i h = In-nil x i
  find-some (y ∷ ys) x i h =
      by_cases (q y)
      (λ e. (y, rw e))
      (λ e. In-cases x y ys i (λ k. not-both (rw k at h) e) (λ k. let r = find-some ys x k h in (r.0, rw e r.1)))

  pub filter-in : (xs : List ℕ) (x : ℕ) → In x (filter q xs) → In x xs
  unfolding filter
  filter-in [] x i = i
  filter-in (y ∷ ys) x i =
      by_cases (q y)
      (λ e. In-cases x y (filter q ys) (rw e at i) (λ k. rw k (In-head y ys)) (λ k. In-tail x y ys (filter-in ys x k)))
      (λ e. In-tail x y ys (filter-in ys x (rw e at i)))

  pub filter_passes : (xs : List ℕ) (x : ℕ) → In x (filter q xs) → q x ≡ true
  unfolding filter
  filter_passes [] x i = In-nil x i
  filter_passes (y ∷ ys) x i =
      by_cases (q y)
      (λ e. In-cases x y (filter q ys) (rw e at i) (λ k. rw k e) (λ k. filter_passes ys x k))
      (λ e. filter_passes ys x (rw e at i))

  pub in-filter : (xs : List ℕ) (x : ℕ) → In x xs → q x ≡ true → In x (filter q xs)
  unfolding filter
  in-filter [] x i h = i
  in-filter (y ∷ ys) x i h =
      In-cases x y ys i
      (λ k. rw (k, (rw k at h)) (In-head y (filter q ys)))
      (λ k. by_cases (q y) (λ e. rw e (In-tail x y (filter q ys) (in-filter ys x k h))) (λ e. rw e (in-filter ys x k h)))

  pub any_some : (xs : List ℕ) → any q xs ≡ true → (x : ℕ) × In x xs × (q x ≡ true)
  unfolding any
  any_some [] e = not-both e refl
  any_some (y ∷ ys) e =
      by_cases (q y)
      (λ h. (y, In-head y ys, h))
      (λ h. let r = any_some ys (rw h at e) in (r.0, In-tail r.0 y ys r.1, r.2))

  pub any_of : (xs : List ℕ) (x : ℕ) → In x xs → q x ≡ true → any q xs ≡ true
  unfolding any
  any_of [] x i h = In-nil x i
  any_of (y ∷ ys) x i h =
      by_cases (q y) (λ e. rw e) (λ e. In-cases x y ys i (λ k. not-both (rw k at h) e) (λ k. rw e (any_of ys x k h)))

pub without_in : (xs ys : List ℕ) (x : ℕ) → In x (without xs ys) → In x ys
unfolding without
without_in xs ys x i = filter-in _ ys x i

pub without-out : (xs ys : List ℕ) (x : ℕ) → In x (without xs ys) → Out x xs
unfolding without
without-out xs ys x i = not-true (elem x xs) (filter_passes _ ys x i)

pub in_without : (xs ys : List ℕ) (x : ℕ) → In x ys → Out x xs → In x (without xs ys)
unfolding without
in_without xs ys x i o = in-filter (λ y. not (elem y xs)) ys x i (ap not o)

pub Out-append : (x : ℕ) (xs ys : List ℕ) → Out x xs → Out x ys → Out x (xs ++ ys)
Out-append x xs ys o k =
    by_cases (elem x (xs ++ ys)) (λ i. In-append x xs ys i (λ h. not-both h o) (λ h. not-both h k)) (λ e. e)

pub Out-head : (x y : ℕ) (xs : List ℕ) → Out x (y ∷ xs) → x ≡ y → ⊥
Out-head x y xs o e = not-both (rw e (In-head y xs)) o

pub Out-tail : (x y : ℕ) (xs : List ℕ) → Out x (y ∷ xs) → Out x xs
Out-tail x y xs o = by_cases (elem x xs) (λ i. not-both (In-tail x y xs i) o) (λ e. e)

pub nodup-left : (xs ys : List ℕ) → NoDup (xs ++ ys) → NoDup xs
nodup-left [] ys n = tt
nodup-left (x ∷ xs) ys n =
    (by_cases (elem x xs) (λ i. not-both (In-append-left x xs ys i) n.0) (λ e. e), nodup-left xs ys n.1)

pub nodup-drop : (xs : List ℕ) (y : ℕ) (ys : List ℕ) → NoDup (xs ++ (y ∷ ys)) → NoDup (xs ++ ys)
nodup-drop [] y ys n = n.1
nodup-drop (x ∷ xs) y ys n = (
  by_cases (elem x (xs ++ ys))
      (λ i. In-append x xs ys i
      (λ k. not-both (In-append-left x xs (y ∷ ys) k) n.0)
      (λ k. not-both (In-append-right x xs (y ∷ ys) (In-tail x y ys k)) n.0))
      (λ e. e),
  nodup-drop xs y ys n.1,
)

pub nodup_append : (xs ys : List ℕ) → NoDup xs → NoDup ys → ((z : ℕ) → In z xs → Out z ys) → NoDup (xs ++ ys)
nodup_append [] ys n m o = m
nodup_append (x ∷ xs) ys n m o =
    (Out-append x xs ys n.0 (o x (In-head x xs)), nodup_append xs ys n.1 m (λ z i. o z (In-tail z x xs i)))

pub nodup-filter : (q : ℕ → Bool) (xs : List ℕ) → NoDup xs → NoDup (filter q xs)
unfolding filter
nodup-filter q [] n = tt
nodup-filter q (x ∷ xs) n =
    by_cases (q x)
    (λ e. rw e (by_cases (elem x (filter q xs)) (λ i. not-both (filter-in q xs x i) n.0) (λ o. o), nodup-filter q xs n.1))
    (λ e. rw e (nodup-filter q xs n.1))

pub take_in : (k : ℕ) (xs : List ℕ) (x : ℕ) → In x (take k xs) → In x xs
take_in zero xs x i = In-nil x i
take_in (suc k) [] x i = i
take_in (suc k) (y ∷ ys) x i = In-cases x y (take k ys) i (λ e. rw e (In-head y ys)) (λ h. In-tail x y ys (take_in k ys x h))

pub filter-append : (q : ℕ → Bool) (xs ys : List ℕ) → filter q (xs ++ ys) ≡ filter q xs ++ filter q ys
unfolding filter
filter-append q [] ys = refl
filter-append q (x ∷ xs) ys = rw (filter-append q xs ys) (by_cases (q x) (λ e. rw e) (λ e. rw e))

pub nodup-take : (k : ℕ) (xs : List ℕ) → NoDup xs → NoDup (take k xs)
nodup-take zero xs n = tt
nodup-take (suc k) [] n = tt
nodup-take (suc k) (x ∷ xs) n =
    (by_cases (elem x (take k xs)) (λ i. not-both (take_in k xs x i) n.0) (λ o. o), nodup-take k xs n.1)

pub count_low : (a k x : ℕ) → In x (count_from a k) → a ≤ x
unfolding count_from
count_low a zero x i = In-nil x i
count_low a (suc k) x i =
    In-cases x a (count_from (suc a) k) i (λ e. omega arith) (λ h. let l = count_low (suc a) k x h in omega arith)

pub nodup-count : (a k : ℕ) → NoDup (count_from a k)
unfolding count_from
nodup-count a zero = tt
nodup-count a (suc k) =
    (by_cases (elem a (count_from (suc a) k)) (λ i. let l = count_low (suc a) k a i in absurd (omega arith)) (λ o. o), nodup-count (suc a) k)

pub nothing-in-nil : (x : ℕ) → Out x []
unfolding elem
nothing-in-nil x = refl

-- the first plan is some member's
pub first-of : {B P : Type 0} (f : ℕ → Option B) (xs : List ℕ) {y : B} → first_of f xs ≡ some y → ((x : ℕ) → In x xs → f x ≡ some y → P) → P
unfolding first_of
first-of f [] {y} h k = never-some y h
first-of f (x ∷ xs) {y} h k =
    by-option (f x)
    (λ e. first-of f xs (rw e at h) (λ z i. k z (In-tail z x xs i)))
    (λ z e. let q = rw e at h in k x (In-head x xs) (e ∙ q))

pub out-cons : (x y : ℕ) (xs : List ℕ) → (x ≡ y → ⊥) → Out x xs → Out x (y ∷ xs)
out-cons x y xs n o = by_cases (elem x (y ∷ xs)) (λ i. In-cases x y xs i (λ e. absurd (n e)) (λ k. not-both k o)) (λ e. e)

pub count-high : (a k x : ℕ) → In x (count_from a k) → x < a + k
unfolding count_from
count-high a zero x i = In-nil x i
count-high a (suc k) x i =
    In-cases x a (count_from (suc a) k) i (λ e. omega arith) (λ h. let l = count-high (suc a) k x h in omega arith)

pub in_count : (a k x : ℕ) → a ≤ x → x < a + k → In x (count_from a k)
unfolding count_from
in_count a zero x l h = absurd (omega arith)
in_count a (suc k) x l h =
    by_cases (eqb x a)
    (λ e. rw (eqb-true x a e) (In-head a (count_from (suc a) k)))
    (λ e. let n = eqb-false x a e in In-tail x a (count_from (suc a) k) (in_count (suc a) k x (omega arith) (omega arith)))

pub Out-left : (x : ℕ) (xs ys : List ℕ) → Out x (xs ++ ys) → Out x xs
Out-left x xs ys o = by_cases (elem x xs) (λ i. not-both (In-append-left x xs ys i) o) (λ e. e)

pub Out-right : (x : ℕ) (xs ys : List ℕ) → Out x (xs ++ ys) → Out x ys
Out-right x xs ys o = by_cases (elem x ys) (λ i. not-both (In-append-right x xs ys i) o) (λ e. e)

pub find_none : (q : ℕ → Bool) (xs : List ℕ) (x : ℕ) → find q xs ≡ none → In x xs → q x ≡ false
find_none q xs x h i = by_cases (q x) (λ e. let f = find-some q xs x i e in never-some f.0 (sym h ∙ f.1)) (λ e. e)

pub none-find : (q : ℕ → Bool) (xs : List ℕ) → ((x : ℕ) → In x xs → q x ≡ false) → find q xs ≡ none
none-find q xs f = by-option (find q xs) (λ e. e) (λ a e. not-both (find-passes q xs e) (f a (find-in q xs e)))

-- what is found in 0, 1, .. is the lowest that passes
find-lowest-from : (q : ℕ → Bool) (a k y e : ℕ) → find q (count_from a k) ≡ some y → a ≤ e → e < y → q e ≡ false
unfolding find count_from
find-lowest-from q a zero y e h l k = never-some y h
find-lowest-from q a (suc n) y e h l k =
    by_cases (q a)
    (λ p. let z : a ≡ y = let w = rw p at h in cc in absurd (omega arith))
    (λ p. by_cases (eqb e a) (λ z. rw (eqb-true e a z) p) (λ z. let d = eqb-false e a z in find-lowest-from q (suc a) n y e (rw p at h) (omega arith) k))

-- the one found is below the bound, passes, and none below it passes
pub find-up_to : (q : ℕ → Bool) (n y : ℕ) → find q (up_to n) ≡ some y → (y < n) × (q y ≡ true) × ((e : ℕ) → e < y → q e ≡ false)
find-up_to q n y h = (
  let z = count-high 0 n y (find-in q (up_to n) h) in omega arith,
  find-passes q (up_to n) h,
  λ e l. find-lowest-from q 0 n y e h (omega arith) l,
)

-- What is found among 0 to n − 1 is exactly the lowest that passes.
pub find-exactly : (q : ℕ → Bool) (n y : ℕ) → (find q (up_to n) ≡ some y) ↔ ((y < n) × (q y ≡ true) × ((e : ℕ) → e < y → q e ≡ false))
find-exactly q n y = (
  find-up_to q n y,
  λ k. by-option (find q (up_to n))
      (λ h. not-both k.1 (find_none q (up_to n) y h (in_count 0 n y (omega arith) (omega (arith, k.0)))))
      (λ z h.
      let f = find-up_to q n z h in
      let same : z ≡ y =
      by_cases (ltb z y)
      (λ l. not-both f.1 (k.2 z (ltb-true z y l)))
      (λ l. by_cases (ltb y z)
      (λ m. not-both k.1 (f.2 y (ltb-true y z m)))
      (λ m. omega (arith, ltb-false z y l, ltb-false y z m))) in
      rw same at h),
)

pub min-either : (P : ℕ → Type 0) (x y : ℕ) → P x → P y → P (min x y)
min-either P x y a b =
    by_cases (ltb x y)
    (λ l. let e : min x y ≡ x = omega (arith, ltb-true x y l) in rw e a)
    (λ l. let e : min x y ≡ y = omega (arith, ltb-false x y l) in rw e b)

-- the lowest that passes
module _ (q : ℕ → Bool) where
  pub lowest-some : (xs : List ℕ) (x : ℕ) → In x xs → q x ≡ true → (y : ℕ) × (lowest_of q xs ≡ some y)
  unfolding lowest_of
  lowest-some [] x i h = In-nil x i
  lowest-some (y ∷ ys) x i h =
      by-option (lowest_of q (y ∷ ys))
      (λ n. by_cases (q y)
      (λ e. by-option (lowest_of q ys) (λ k. never-some _ (sym (rw (e, k) at n))) (λ z k. never-some _ (sym (rw (e, k) at n))))
      (λ e. In-cases x y ys i
      (λ k. not-both (rw k at h) e)
      (λ k. let r = lowest-some ys x k h in never-some r.0 (sym (rw e at n) ∙ r.1))))
      (λ z k. (z, k))

  -- no member that passes is lower than what is found; it passes, and is a member
  pub lowest-least : (xs : List ℕ) {y : ℕ} → lowest_of q xs ≡ some y → (a : ℕ) → In a xs → q a ≡ true → y ≤ a
  unfolding lowest_of
  lowest-least [] {y} h a i p = In-nil a i
  lowest-least (x ∷ xs) {y} h a i p =
      by_cases (q x)
      (λ e. by-option (lowest_of q xs)
      (λ k.
      let m = some_same (rw (e, k) at h) in
      In-cases a x xs i (λ s. omega arith) (λ j. let r = lowest-some xs a j p in never-some r.0 (sym k ∙ r.1)))
      (λ z k.
      let m = some_same (rw (e, k) at h) in
      In-cases a x xs i (λ s. omega arith) (λ j. let l = lowest-least xs k a j p in omega arith)))
      (λ e. In-cases a x xs i (λ s. not-both (rw s at p) e) (λ j. lowest-least xs (rw e at h) a j p))

  pub lowest-passes : (xs : List ℕ) {y : ℕ} → lowest_of q xs ≡ some y → q y ≡ true
  unfolding lowest_of
  lowest-passes [] {y} h = never-some y h
  lowest-passes (x ∷ xs) {y} h =
      by_cases (q x)
      (λ e. by-option (lowest_of q xs)
      (λ k. rw (some_same (rw (e, k) at h)) at e)
      (λ z k. rw (some_same (rw (e, k) at h)) at (min-either (λ a. q a ≡ true) x z e (lowest-passes xs k))))
      (λ e. lowest-passes xs (rw e at h))

  pub lowest-in : (xs : List ℕ) {y : ℕ} → lowest_of q xs ≡ some y → In y xs
  unfolding lowest_of
  lowest-in [] {y} h = never-some y h
  lowest-in (x ∷ xs) {y} h =
      by_cases (q x)
      (λ e. by-option (lowest_of q xs)
      (λ k. let m = some_same (rw (e, k) at h) in rw (← m) (In-head x xs))
      (λ z k. let m = some_same (rw (e, k) at h) in rw (← m) (min-either (λ a. In a (x ∷ xs)) x z (In-head x xs) (In-tail z x xs (lowest-in xs k)))))
      (λ e. In-tail y x xs (lowest-in xs (rw e at h)))

-- ## The highest

-- each of some numbers is at most the highest,
pub highest-above : (xs : List ℕ) (i : ℕ) → i < length xs → get_or xs i 0 ≤ highest_of xs
unfolding highest_of
highest-above [] i h = absurd (omega arith)
highest-above (x ∷ xs) zero h = omega arith
highest-above (x ∷ xs) (suc i) h = let ih = highest-above xs i (omega arith) in omega arith

-- and the highest is at most what none of them exceeds
pub highest-below : (xs : List ℕ) (b : ℕ) → ((i : ℕ) → i < length xs → get_or xs i 0 ≤ b) → highest_of xs ≤ b
unfolding highest_of
highest-below [] b f = omega arith
highest-below (x ∷ xs) b f =
    let ih = highest-below xs b (λ i h. f (suc i) (omega arith)) in
    let l : x ≤ b = f 0 (omega arith) in
    omega arith

-- ## A search that goes up and ends at the first that it finds

-- of the numbers below e, the lowest that passes; n while there is none
pub record Passed (q : ℕ → Bool) (n lowest e : ℕ) : Type 0 where
  pub most : lowest ≤ n
  pub hit : lowest < n → q lowest ≡ true
  pub before : (k : ℕ) → k < e → k < lowest → q k ≡ false

module _ (q : ℕ → Bool) (n : ℕ) where
  pub passed_none : Passed q n n 0
  passed_none = record { most = omega arith; hit = λ h. absurd (omega arith); before = λ k h l. absurd (omega arith) }

  module _ (lowest e : ℕ) (p : Passed q n lowest e) where
    pub passed-hit : e < lowest → q e ≡ true → Passed q n e (e + 1)
    passed-hit h t = record { most = omega (arith, p.most); hit = λ l. t; before = λ k i l. p.before k l (omega arith) }

    pub passed-miss : q e ≡ false → Passed q n lowest (e + 1)
    passed-miss f = record {
      most = p.most;
      hit = p.hit;
      before = λ k i l. by_cases (eqb k e) (λ z. rw (eqb-true k e z) f) (λ z. let d = eqb-false k e z in p.before k (omega arith) l);
    }

    pub passed-there : lowest ≤ e → lowest < n → find q (up_to n) ≡ some lowest
    passed-there end h = (find-exactly q n lowest).1 (h, p.hit h, λ k l. p.before k (omega arith) l)

    pub passed-nowhere : lowest ≤ e → n ≤ lowest → find q (up_to n) ≡ none
    passed-nowhere end h = none-find q (up_to n) (λ k i. let l = count-high 0 n k i in p.before k (omega arith) (omega arith))
