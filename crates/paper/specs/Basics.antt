-- The few tools that the rules are written with: tests, lists, and answers that may be missing.
-- Assumes nothing.
use Rattle.std.specs.Prelude.{Bool, true, false, not, List, [], ◌∷◌, ◌++◌, ◌≡◌, ℕ, zero, suc, min, max, eqb, if◌then◌else◌}
use Rattle.std.proofs.Math.Option.{Option, none, some}

infix 10 if_some◌then◌else◌
infixl 20 ◌>>=◌
infixl 30 ◌or◌
infixl 35 ◌and◌
-- Both tests pass; one of them does. They stay shut in proofs (mathlib's && and || open everywhere), so that a law's arguments are found.
unfoldable pub ◌and◌ : Bool → Bool → Bool
true and b = b
false and b = false

unfoldable pub ◌or◌ : Bool → Bool → Bool
true or b = true
false or b = b

-- by whether there is an answer
abbrev pub if_some◌then◌else◌ : {A B : Type 0} → Option A → (A → B) → B → B
if_some none then f else b = b
if_some some a then f else b = f a

-- a missing answer ends the work
abbrev pub ◌>>=◌ : {A B : Type 0} → Option A → (A → Option B) → Option B
none >>= f = none
some a >>= f = f a

module _ {A : Type 0} where
  -- the first answer, or the second where the first is missing
  abbrev pub or_else : Option A → Option A → Option A
  or_else none o = o
  or_else (some a) o = some a

  -- the answer a where the test passes
  abbrev pub when : Bool → A → Option A
  when true a = some a
  when false a = none

  -- the members that pass the test, in their order
  unfoldable pub filter : (A → Bool) → List A → List A
  filter q [] = []
  filter q (x ∷ xs) = let rest = filter q xs in if q x then x ∷ rest else rest

  -- some member passes the test
  unfoldable pub any : (A → Bool) → List A → Bool
  any q [] = false
  any q (x ∷ xs) = let rest = any q xs in if q x then true else rest

  -- the first member that passes the test
  unfoldable pub find : (A → Bool) → List A → Option A
  find q [] = none
  find q (x ∷ xs) = let rest = find q xs in if q x then some x else rest

  -- the lists one after the other
  unfoldable pub concat : List (List A) → List A
  concat [] = []
  concat (l ∷ ls) = l ++ concat ls

-- the answer of the first member that has one
unfoldable pub first_of : {A B : Type 0} → (A → Option B) → List A → Option B
first_of f [] = none
first_of f (x ∷ xs) = let rest = first_of f xs in or_else (f x) rest

-- The place, counted from i, of the first member that is bad in view of those before it.
unfoldable pub first_bad : {A : Type 0} → (List A → A → Bool) → ℕ → List A → List A → Option ℕ
first_bad bad i before [] = none
first_bad bad i before (x ∷ xs) =
    let rest = first_bad bad (suc i) (before ++ (x ∷ [])) xs in if bad before x then some i else rest

-- the lowest member that passes the test
unfoldable pub lowest_of : (ℕ → Bool) → List ℕ → Option ℕ
lowest_of q [] = none
lowest_of q (x ∷ xs) =
    let rest = lowest_of q xs in
    let low = if_some rest then (λ y. some (min x y)) else some x in
    if q x then low else rest

-- the highest of some numbers, 0 where there are none
unfoldable pub highest_of : List ℕ → ℕ
highest_of [] = zero
highest_of (x ∷ xs) = max x (highest_of xs)

-- x is a member
unfoldable pub elem : ℕ → List ℕ → Bool
elem x [] = false
elem x (y ∷ ys) = let rest = elem x ys in if eqb x y then true else rest

-- the place of x in the list, from 0; the list's length where x is no member
unfoldable pub place_of : ℕ → List ℕ → ℕ
place_of x [] = zero
place_of x (y ∷ ys) = let rest = place_of x ys in if eqb x y then zero else suc rest

-- the members of ys that are not in xs
unfoldable pub without : List ℕ → List ℕ → List ℕ
without xs ys = filter (λ y. not (elem y xs)) ys

-- a, a + 1, ..: k numbers
unfoldable pub count_from : ℕ → ℕ → List ℕ
count_from a zero = []
count_from a (suc k) = a ∷ count_from (suc a) k

-- 0 to n − 1
abbrev pub up_to : ℕ → List ℕ
up_to n = count_from 0 n

-- How statements say it: x is a member, x is none, no member stands twice.
abbrev pub In : ℕ → List ℕ → Type 0
In x xs = elem x xs ≡ true

abbrev pub Out : ℕ → List ℕ → Type 0
Out x xs = elem x xs ≡ false

abbrev pub NoDup : List ℕ → Type 0
NoDup [] = Unit {0}
NoDup (x ∷ xs) = Out x xs × NoDup xs
