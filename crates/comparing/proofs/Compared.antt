-- What a comparison that is granted says of the two lists, and that any two answers that the contract allows are equal.
use mathlib.Core.Path.{◌≡◌, sym, ◌∙◌}
use mathlib.Core.List.{List}
use Prim.Native.Nat.{ℕ}
use lib.IntN.{ℤ, pos, ◌-ℤ◌}
use lib.ListN.{length}
use Rattle.comparing.specs.Comparing.{comparison, longer_by, part_by, differences}
use Rattle.paper.specs.Docket.{granted}
use Rattle.comparing.specs.Statements.{CompareSays}
use Rattle.leading.proofs.Leading.{EqualExactly, equal-exactly, RestOf, rest_of}
use Rattle.comparing.proofs.Differing.{sum_of, differences-sum}
use Rattle.comparing.proofs.Exchanged.{granted-passed}

module _ (first second : List ℕ) (lent n : ℕ) (h : comparison first second lent ≡ granted n) where
  -- The part handed back is exactly that part of that list.
  pub part-handed : RestOf first second n (longer_by first second (granted n)) (part_by first second (granted n))
  part-handed = rw (granted-passed first second lent n h).1 (rest_of first second)

  -- The two lists are equal if and only if the count is the length of both.
  pub equal-counted : EqualExactly first second n
  equal-counted = rw (granted-passed first second lent n h).1 (equal-exactly first second)

  -- The differences add up to the difference of the lengths.
  pub differences-add-up : sum_of (differences first second) ≡ pos (length second) -ℤ pos (length first)
  differences-add-up = let p = (granted-passed first second lent n h).0 in differences-sum first second p.first-low p.second-low

-- Any two answers allowed are equal: the part, the three numbers, and what stands in the lent list.
pub compare-determined : (first second : List ℕ) (lent : List ℤ) (part part' : List ℕ) (number number' value value' longer longer' : ℕ) (left left' : List ℤ)
    → CompareSays first second lent part number value longer left → CompareSays first second lent part' number' value' longer' left'
    → (part ≡ part') × (number ≡ number') × (value ≡ value') × (longer ≡ longer') × (left ≡ left')
compare-determined first second lent part part' number number' value value' longer longer' left left' s t = (
  s.hands_back ∙ sym t.hands_back,
  s.numbered ∙ sym t.numbered,
  s.valued ∙ sym t.valued,
  s.which ∙ sym t.which,
  s.leaves ∙ sym t.leaves,
)
