-- Reversal keeps the highest slot S. The slots of the list, counted down from S + 1 and read from the end, are a numbering of the reverse
-- that rises along dependence, since exchanged crossings depend on each other exactly if the crossings do. Slots are the lowest such
-- numbering, so none of the reverse is above S; and reversing twice gives the list back, so S is not above the reverse's highest.
use mathlib.Core.Path.{◌≡◌, ◌∙◌, ap}
use mathlib.Core.Bool.{true}
use mathlib.Core.List.{List}
use Prim.Native.Nat.{ℕ, suc, ◌<◌, ◌≤◌, ◌-◌}
use native.Mathlib.Omega.{arith}
use lib.ListN.{length, get_or}
use Rattle.paper.specs.Yard.{Crossing, turned, reverse_of, crossings, named}
use Rattle.paper.specs.Dependence.{depend, slots}
use Rattle.paper.proofs.Tests.{or_left, or_right, or_cases}
use Rattle.paper.proofs.Members.{highest-above, highest-below}
use Rattle.paper.proofs.Commuting.{depend-sym}
use Rattle.paper.proofs.Slotting.{Numbering, slots_length, slots-rise, slots-lowest}
use Rattle.reversing.specs.Reversing.{reversed, highest_slot}
use Rattle.reversing.proofs.Backwards.{reverse-of-length, reverse-of-twice, reverse-of-at, reversed-reads}

-- Exchanged crossings depend on each other as the crossings do.
pub depend-turned : (x y : Crossing) → depend (turned x) (turned y) ≡ true → depend x y ≡ true
unfolding depend
depend-turned x y h =
    or_cases _ _ h
    (λ a. or_cases _ _ a
    (λ b. or_cases _ _ b
    (λ c. or_cases _ _ c
    (λ carriers. or_left _ _ (or_left _ _ (or_left _ _ (or_left _ _ carriers))))
    (λ to_to. or_right _ _ to_to))
    (λ to_from. or_left _ _ (or_right _ _ to_from)))
    (λ from_to. or_left _ _ (or_left _ _ (or_right _ _ from_to))))
    (λ from_from. or_left _ _ (or_left _ _ (or_left _ _ (or_right _ _ from_from))))

module _ (xs : List Crossing) where
  -- the slots read from the end
  abbrev mirrored : ℕ → ℕ
  mirrored i = get_or (slots xs) (length xs - 1 - i) 0

  mirrored-low : (i : ℕ) → i < length xs → mirrored i ≤ highest_slot xs
  mirrored-low i h = highest-above (slots xs) (length xs - 1 - i) (rw slots_length (omega arith))

  mirrored-high : (i : ℕ) → i < length xs → 1 ≤ mirrored i
  mirrored-high i h = (slots-rise xs).from_one (length xs - 1 - i) (omega arith)

  -- counted down they number the reverse
  counted-down : Numbering (reverse_of xs) (λ i. suc (highest_slot xs) - mirrored i)
  counted-down = record {
    from_one = λ i h. let l = mirrored-low i (rw reverse-of-length at h) in omega arith;
    rises = λ e i k h d.
        let hi : i < length xs = rw reverse-of-length at h in
        let he : e < length xs = omega arith in
        let turned-d : depend (turned (named xs (length xs - 1 - i))) (turned (named xs (length xs - 1 - e))) ≡ true =
        rw (← reverse-of-at xs i hi, ← reverse-of-at xs e he) d in
        let back : depend (named xs (length xs - 1 - e)) (named xs (length xs - 1 - i)) ≡ true =
        depend-sym _ _ ∙ depend-turned _ _ turned-d in
        let r : mirrored i < mirrored e = (slots-rise xs).rises (length xs - 1 - i) (length xs - 1 - e) (omega arith) (omega arith) back in
        let l = mirrored-low e he in
        omega arith;
  }

  not-higher : highest_slot (reverse_of xs) ≤ highest_slot xs
  not-higher =
      highest-below (slots (reverse_of xs)) (highest_slot xs)
      (λ i h.
      let hr : i < length (reverse_of xs) = rw slots_length at h in
      let hx : i < length xs = rw reverse-of-length at hr in
      let l = slots-lowest (reverse_of xs) (λ j. suc (highest_slot xs) - mirrored j) counted-down i hr in
      let one = mirrored-high i hx in
      omega arith)

-- Slots of the reverse use the same highest slot as the plan, for lists of any crossings,
pub highest-slot-kept : (xs : List Crossing) → highest_slot (reverse_of xs) ≡ highest_slot xs
highest-slot-kept xs =
    let down = not-higher xs in
    let up : highest_slot xs ≤ highest_slot (reverse_of xs) = rw reverse-of-twice at (not-higher (reverse_of xs)) in
    omega arith

-- and of numbers.
pub reversed-highest-slot : (plan : List ℕ) → highest_slot (crossings (reversed plan)) ≡ highest_slot (crossings plan)
reversed-highest-slot plan = ap highest_slot (reversed-reads plan) ∙ highest-slot-kept (crossings plan)
