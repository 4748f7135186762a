-- A list in which a carrier is stored: as it was, or with one number more, and as long as before.
use mathlib.Core.Path.{◌≡◌, ◌∙◌, ap}
use mathlib.Core.List.{List}
use Prim.Native.Nat.{ℕ}
use lib.Dec.{eqb}
use lib.ListN.{length, set, length-set}
use borrow.Author.Tests.{eq-eqb, ne_eqb}
use Rattle.paper.proofs.Tests.{by_cases}
use Rattle.carrier_lists.specs.Counting.{kept}

module _ (before count x : ℕ) (l : List ℕ) where
  pub kept_same : count ≡ before → l ≡ kept before count x l
  unfolding kept
  kept_same e = rw (eq-eqb count before e)

  pub kept_more : (count ≡ before → ⊥) → set l before x ≡ kept before count x l
  unfolding kept
  kept_more n = rw (ne_eqb count before n)

  pub kept-length : (m : List ℕ) → m ≡ kept before count x l → length m ≡ length l
  unfolding kept
  kept-length m e =
      by_cases (eqb count before)
      (λ t. let q : m ≡ l = e ∙ rw t in ap length q)
      (λ t. let q : m ≡ set l before x = e ∙ rw t in ap length q ∙ length-set l before x)
