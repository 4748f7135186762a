-- A copy in the making: the first i places have been copied, and the rest is as it was.
use Rattle.std.proofs.Common.{◌≡◌, ◌++◌, ◌≤◌, ◌<◌, ◌+◌, length, take, drop, ℕ, List, ap, ap₂, ◌∙◌, arith, slice_index_or, slice_set}
use native.Mathlib.Numerals.{add-one}
use native.Mathlib.Nat.{zero-add}
use lib.ListN.{set}
use lib.Seq.{paste-suc, take-length}

module _ {A : Type 0} (to₀ from : List A) where
  abbrev pub copied : ℕ → List A
  copied i = take i from ++ drop i to₀

  pub copied-more : (to : List A) (i : ℕ) (x : A) → i < length from → length from ≤ length to₀ → x ≡ slice_index_or from i x → to ≡ copied i
      → slice_set to i x ≡ copied (i + 1)
  copied-more to i x h k is e =
      ap₂ (λ l y. set l i y) e is ∙ rw add-one (simp zero-add at (paste-suc to₀ 0 from i x (omega (arith, h, k)) h))

  pub copied-all : (to : List A) (i : ℕ) → i ≤ length from → length from ≤ i → to ≡ copied i → to ≡ from ++ drop (length from) to₀
  copied-all to i h k e = let end : i ≡ length from = omega (arith, h, k) in (rw end at e) ∙ ap (λ l. l ++ drop (length from) to₀) (take-length from)
