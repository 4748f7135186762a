-- What is left of a list after taking members out is no longer, and each count of it is no higher.
use mathlib.Core.Path.{◌≡◌, refl, ap, ap₂}
use mathlib.Core.List.{List, [], ◌∷◌, map}
use Prim.Native.Nat.{ℕ, ◌≤◌}
use native.Mathlib.Omega.{arith}
use lib.Dec.{eqb}
use lib.ListN.{length}
use Rattle.paper.specs.Yard.{Carrier, Crossing, pack, unpack, crossings}
use Rattle.paper.specs.Dependence.{count_of}
use Rattle.paper.proofs.Tests.{by_cases}
use Rattle.paper.proofs.Packing.{pack-unpack}
use Rattle.trips.specs.Trips.{LeftOf, nothing, keeping, taking}

module _ {A : Type 0} where
  pub left-same : (xs : List A) → LeftOf xs xs
  left-same [] = nothing
  left-same (x ∷ xs) = keeping (left-same xs)

  pub left-twice : {zs ys xs : List A} → LeftOf zs ys → LeftOf ys xs → LeftOf zs xs
  left-twice h nothing = h
  left-twice (keeping {ys = ys} h) (keeping k) = keeping (left-twice {zs = ys} h k)
  left-twice (taking h) (keeping k) = taking (left-twice h k)
  left-twice h (taking k) = taking (left-twice h k)

  pub left-length : {ys xs : List A} → LeftOf ys xs → length ys ≤ length xs
  left-length nothing = omega arith
  left-length (keeping h) = let z = left-length h in omega arith
  left-length (taking h) = let z = left-length h in omega arith

pub left-count : (c : Carrier) {ys xs : List Crossing} → LeftOf ys xs → count_of c ys ≤ count_of c xs
unfolding count_of
left-count c nothing = omega arith
left-count c (keeping {x} h) = let z = left-count c h in by_cases (eqb x.carrier c) (λ e. rw e (omega arith)) (λ e. rw e (omega arith))
left-count c (taking {x} h) = let z = left-count c h in by_cases (eqb x.carrier c) (λ e. rw e (omega arith)) (λ e. rw e (omega arith))

-- the numbers of a plan's crossings read as them, and so do those of what is left of the plan
plan-reads : (plan : List ℕ) → crossings (map pack (crossings plan)) ≡ crossings plan
plan-reads [] = refl
plan-reads (w ∷ plan) = ap₂ (λ z zs. z ∷ zs) (ap unpack (pack-unpack w)) (plan-reads plan)

head-same : {A : Type 0} {x y : A} {xs ys : List A} → x ∷ xs ≡ y ∷ ys → (x ≡ y) × (xs ≡ ys)
head-same h = (cc, cc)

rest-reads : {ys xs : List Crossing} → LeftOf ys xs → crossings (map pack xs) ≡ xs → crossings (map pack ys) ≡ ys
rest-reads nothing h = refl
rest-reads (keeping k) h = let z = head-same h in ap₂ (λ z zs. z ∷ zs) z.0 (rest-reads k z.1)
rest-reads (taking k) h = rest-reads k (head-same h).1

pub left-reads : (plan : List ℕ) (ys : List Crossing) → LeftOf ys (crossings plan) → crossings (map pack ys) ≡ ys
left-reads plan ys h = rest-reads h (plan-reads plan)
