-- A part of a list was lent and came back: it stands there, and the rest is as it was.
-- Assumes nothing.
use mathlib.Core.Path.{◌≡◌, sym, ◌∙◌, ap, refl}
use mathlib.Core.List.{List, [], ◌∷◌, ◌++◌, append-nil}
use Prim.Native.Nat.{ℕ, suc, ◌≤◌, ◌-◌, ◌+◌}
use native.Mathlib.Omega.{arith}
use lib.ListN.{length, take, drop, length-append, length-drop}
use lib.Seq.{length-take-le, length_front, take-append_seam, take-append-le, take-take, take_all, take_at, drop_at}

-- ## The front

module _ (all front : List ℕ) (k : ℕ) (fits : k ≤ length all) (same : length front ≡ length (take k all)) where
  pub front_long : length front ≡ k
  front_long = same ∙ length-take-le k all fits

  pub front-stands : take k (front ++ drop k all) ≡ front
  front-stands = ap (λ (j : ℕ). take j (front ++ drop k all)) (sym front_long) ∙ take-append_seam front (drop k all)

  pub front-leaves : drop k (front ++ drop k all) ≡ drop k all
  front-leaves = drop_at front (drop k all) k front_long

  pub all-long : length (front ++ drop k all) ≡ length all
  all-long = length_front all front k same

-- ## The rest from a place on

-- what the code lends
pub rest_part : (l : List ℕ) (m : ℕ) → take (length l - m) (drop m l) ≡ drop m l
rest_part l m = take_all (length l - m) (drop m l) (rw length-drop (omega arith))

pub rest-size : (l : List ℕ) (m : ℕ) → length (take (length l - m) (drop m l)) ≡ length l - m
rest-size l m = ap length (rest_part l m) ∙ length-drop m l

no_more : (l : List ℕ) → length l ≡ 0 → l ≡ []
no_more [] e = refl
no_more (a ∷ l) e = absurd (omega (arith, e))

module _ (all rest behind : List ℕ) (m : ℕ) (fits : m ≤ length all) where
  cut : length (take m all) ≡ m
  cut = length-take-le m all fits

  pub rest-leaves : take m (take m all ++ (rest ++ behind)) ≡ take m all
  rest-leaves = take_at (take m all) (rest ++ behind) m cut

  pub rest-leaves-front : (k : ℕ) → k ≤ m → take k (take m all ++ (rest ++ behind)) ≡ take k all
  rest-leaves-front k h = take-append-le k (take m all) (rest ++ behind) (omega (arith, cut)) ∙ take-take k m all h

  pub rest-begins : (n : ℕ) → n ≤ length rest → take n (drop m (take m all ++ (rest ++ behind))) ≡ take n rest
  rest-begins n h = ap (take n) (drop_at (take m all) (rest ++ behind) m cut) ∙ take-append-le n rest behind h

  -- nothing is behind it
  pub rest-stands : length rest ≡ length (take (length all - m) (drop m all)) → length (take m all ++ (rest ++ behind)) ≡ length all → drop m (take m all ++ (rest ++ behind)) ≡ rest
  rest-stands same whole =
      let sum = length-append (take m all) (rest ++ behind) in
      let sum' = length-append rest behind in
      let none : length behind ≡ 0 = omega (arith, cut, fits, same, rest-size all m, whole, sum, sum') in
      drop_at (take m all) (rest ++ behind) m cut ∙ ap (λ (l : List ℕ). rest ++ l) (no_more behind none) ∙ append-nil rest

-- ## Copies

-- a copy begins with what was copied
pub copied : (from front to : List ℕ) (k : ℕ) → from ≡ front → length front ≡ k → take (length from) to ≡ from → take k to ≡ front
copied from front to k e long same = ap (λ (j : ℕ). take j to) (sym (ap length e ∙ long)) ∙ same ∙ e

-- the part of n numbers from a place on
pub part_of : (l : List ℕ) (m n : ℕ) → take ((m + n) - m) (drop m l) ≡ take n (drop m l)
part_of l m n = let same : (m + n) - m ≡ n = omega arith in ap (λ (j : ℕ). take j (drop m l)) same
