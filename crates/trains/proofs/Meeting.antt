-- The crossings that are met before a name, each with its slot: by them a name's slot is read off, and each name adds one.
use Rattle.std.specs.Prelude.{if◌then◌else◌}
use mathlib.Core.Path.{◌≡◌, refl, ap}
use mathlib.Core.Bool.{Bool, true}
use mathlib.Core.List.{List, [], ◌∷◌}
use Prim.Native.Nat.{ℕ, zero, suc, ◌<◌, ◌≤◌, max}
use native.Mathlib.Omega.{arith}
use lib.Dec.{ltb}
use lib.ListN.{length, get_or, take}
use borrow.Author.Tests.{ltb-true, ltb-false}
use Rattle.paper.specs.Yard.{Placement, Crossing, named, move, after}
use Rattle.paper.proofs.Tests.{by_cases}
use Rattle.trains.specs.Slots.{Timed, train_slot, train_slots_after, train_slots}

-- what is met once i more crossings are
met_after : List Timed → List Crossing → ℕ → List Timed
met_after met xs zero = met
met_after met [] (suc i) = met
met_after met (x ∷ xs) (suc i) = met_after ((x, train_slot met x) ∷ met) xs i

after-length : (met : List Timed) (xs : List Crossing) → length (train_slots_after met xs) ≡ length xs
unfolding train_slots_after
after-length met [] = refl
after-length met (x ∷ xs) = ap suc (after-length ((x, train_slot met x) ∷ met) xs)

after-at : (met : List Timed) (xs : List Crossing) (i : ℕ) → i < length xs
    → get_or (train_slots_after met xs) i 0 ≡ train_slot (met_after met xs i) (named xs i)
unfolding train_slots_after met_after
after-at met [] i h = absurd (omega arith)
after-at met (x ∷ xs) zero h = refl
after-at met (x ∷ xs) (suc i) h = after-at ((x, train_slot met x) ∷ met) xs i (omega arith)

after_on : (met : List Timed) (xs : List Crossing) (i : ℕ) → i < length xs
    → met_after met xs (suc i) ≡ (named xs i, get_or (train_slots_after met xs) i 0) ∷ met_after met xs i
unfolding train_slots_after met_after
after_on met [] i h = absurd (omega arith)
after_on met (x ∷ xs) zero h = refl
after_on met (x ∷ xs) (suc i) h = after_on ((x, train_slot met x) ∷ met) xs i (omega arith)

-- the crossings before the name i
pub met_by : List Crossing → ℕ → List Timed
met_by xs i = met_after [] xs i

abbrev pub slot_at : List Crossing → ℕ → ℕ
slot_at xs i = get_or (train_slots xs) i 0

pub slots_length : (xs : List Crossing) → length (train_slots xs) ≡ length xs
unfolding train_slots
slots_length xs = after-length [] xs

pub slot_is : (xs : List Crossing) (i : ℕ) → i < length xs → slot_at xs i ≡ train_slot (met_by xs i) (named xs i)
unfolding train_slots met_by
slot_is xs i h = after-at [] xs i h

pub met-none : (xs : List Crossing) → met_by xs 0 ≡ []
unfolding met_by met_after
met-none xs = refl

pub met-on : (xs : List Crossing) (i : ℕ) → i < length xs → met_by xs (suc i) ≡ (named xs i, slot_at xs i) ∷ met_by xs i
unfolding train_slots met_by
met-on xs i h = after_on [] xs i h

-- the placement after all that is met
unfoldable pub stands : Placement → List Timed → Placement
stands p [] = p
stands p (m ∷ met) = move (stands p met) m.0

stands_after : (p : Placement) (met : List Timed) (xs : List Crossing) (i : ℕ) → stands p (met_after met xs i) ≡ after (stands p met) (take i xs)
unfolding met_after stands after
stands_after p met xs zero = refl
stands_after p met [] (suc i) = refl
stands_after p met (x ∷ xs) (suc i) = stands_after p ((x, train_slot met x) ∷ met) xs i

pub stands_by : (p : Placement) (xs : List Crossing) (i : ℕ) → stands p (met_by xs i) ≡ after p (take i xs)
unfolding met_by stands
stands_by p xs i = stands_after p [] xs i

-- the highest slot of those that pass a test, or 0
unfoldable pub highest_met : (Crossing → Bool) → List Timed → ℕ
highest_met test [] = zero
highest_met test (m ∷ met) = let rest = highest_met test met in if test m.0 then max m.1 rest else rest

-- each one met is no higher
pub met-below : (xs : List Crossing) (test : Crossing → Bool) (e i : ℕ) → e < i → i ≤ length xs → test (named xs e) ≡ true
    → slot_at xs e ≤ highest_met test (met_by xs i)
unfolding highest_met
met-below xs test e zero l h q = absurd (omega arith)
met-below xs test e (suc i) l h q =
    rw (met-on xs i (omega arith))
    (by_cases (ltb e i)
    (λ s.
    let ih = met-below xs test e i (ltb-true e i s) (omega arith) q in
    by_cases (test (named xs i)) (λ t. rw t (omega arith)) (λ t. rw t ih))
    (λ s.
    let same : i ≡ e = omega (arith, ltb-false e i s) in
    let t : test (named xs i) ≡ true = rw same q in
    rw (t, same) (omega arith)))
