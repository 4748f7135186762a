-- There-and-back trips: a carrier leaves a bay and stands there again, and no other carrier has entered it meanwhile. Shortening
-- drops such trips until there is none.
-- Assumes nothing.
use Rattle.std.specs.Prelude.{Bool, not, List, [], ◌∷◌, ◌++◌, ◌≡◌, ℕ, zero, suc, ◌<◌, ◌-◌, eqb, length, take, drop, if◌then◌else◌}
use Rattle.std.proofs.Math.Option.{Option, none, some}
use Rattle.paper.specs.Basics.{if_some◌then◌else◌, ◌>>=◌, or_else, filter}
use Rattle.paper.specs.Yard.{Bay, Carrier, Crossing, named}

-- a crossing into bay a; a crossing of carrier c
abbrev pub enters : Bay → Crossing → Bool
enters a x = eqb x.to a

abbrev pub is_of : Carrier → Crossing → Bool
is_of c x = eqb x.carrier c

-- "later stands at a again with no other carrier having entered a between. Take the last such return": how many crossings there
-- are up to it, itself included
unfoldable pub last_return : Carrier → Bay → List Crossing → Option ℕ
last_return c a [] = none
last_return c a (x ∷ xs) =
    let later = last_return c a xs >>= λ n. some (suc n) in
    let back = or_else later (some 1) in
    let entered = if is_of c x then back else none in
    if enters a x then entered else later

-- "drop c's crossings from the leaving to that return": what is kept of the n crossings after the leaving, and all that follow
unfoldable pub kept : Carrier → ℕ → List Crossing → List Crossing
kept c n xs = filter (λ x. not (is_of c x)) (take n xs) ++ drop n xs

-- "Take the lowest name at which carrier c leaves a bay a and later stands at a again": the plan with that trip dropped
unfoldable pub cut : List Crossing → Option (List Crossing)
cut [] = none
cut (x ∷ xs) =
    let later = cut xs >>= λ ys. some (x ∷ ys) in
    if_some last_return x.carrier x.from xs then (λ n. some (kept x.carrier n xs)) else later

-- "Repeat until there is none", so many times at most
unfoldable pub cuts : ℕ → List Crossing → List Crossing
cuts zero xs = xs
cuts (suc k) xs = if_some cut xs then cuts k else xs

-- Each cut drops a crossing, so a plan has no more cuts than crossings.
abbrev pub shorten : List Crossing → List Crossing
shorten xs = cuts (length xs) xs

-- "keeps the order of the rest": ys is what is left of xs after taking some members out
pub data LeftOf {A : Type 0} : List A → List A → Type 0 where
  nothing : LeftOf [] []
  keeping : {x : A} {ys xs : List A} → LeftOf ys xs → LeftOf (x ∷ ys) (x ∷ xs)
  taking : {x : A} {ys xs : List A} → LeftOf ys xs → LeftOf ys (x ∷ xs)

-- ## In the request's words, by names

-- "carrier c leaves a bay a", at the name i, "and later stands at a again", at the name j, "with no other carrier having entered a between"
pub record Trip (xs : List Crossing) (i j : ℕ) : Type 0 where
  pub later : i < j
  pub there : j < length xs
  pub same : (named xs j).carrier ≡ (named xs i).carrier
  pub again : (named xs j).to ≡ (named xs i).from
  pub unused : (m : ℕ) → i < m → m < j → (named xs m).to ≡ (named xs i).from → (named xs m).carrier ≡ (named xs i).carrier

-- "the lowest name", "the last such return"
pub record LowestTrip (xs : List Crossing) (i j : ℕ) : Type 0 where
  pub trip : Trip xs i j
  pub lowest : (i' j' : ℕ) → i' < i → Trip xs i' j' → ⊥
  pub last : (j' : ℕ) → j < j' → Trip xs i j' → ⊥

-- What a cut leaves: all before the leaving, and after it what is kept up to the last return and everything that follows.
pub record CutAt (xs ys : List Crossing) : Type 0 where
  pub name : ℕ
  pub return : ℕ
  pub is_lowest : LowestTrip xs name return
  pub leaves : ys ≡ take name xs ++ kept (named xs name).carrier (return - name) (drop (suc name) xs)
