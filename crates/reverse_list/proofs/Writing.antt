-- The reverse in the making: the first i places are the reverse's, and the rest is as it was. The next place takes the list's next number from
-- the end, turned.
use mathlib.Core.Path.{◌≡◌, sym, ◌∙◌, ap, ap₂}
use mathlib.Core.List.{List, ◌++◌}
use Prim.Native.Nat.{ℕ, ◌≤◌, ◌<◌, ◌+◌, ◌-◌}
use native.Mathlib.Omega.{arith}
use native.Mathlib.Numerals.{add-one}
use native.Mathlib.Nat.{zero-add}
use lib.ListN.{length, get_or, take, drop, set}
use lib.Seq.{paste-suc, take-length}
use Rattle.reversing.specs.Reversing.{reversed}
use Rattle.reversing.proofs.Backwards.{turned_number, reversed-length, reversed-at}

module _ (list out₀ : List ℕ) where
  abbrev pub written_to : ℕ → List ℕ
  written_to i = take i (reversed list) ++ drop i out₀

  pub written-more : (out : List ℕ) (i v : ℕ) → i < length list → length list ≤ length out₀ → v ≡ turned_number (get_or list (length list - 1 - i) 0)
      → out ≡ written_to i → set out i v ≡ written_to (i + 1)
  written-more out i v h room is e =
      let long = reversed-length list in
      ap₂ (λ l x. set l i x) e (is ∙ sym (reversed-at list i h))
      ∙ rw add-one (simp zero-add at (paste-suc out₀ 0 (reversed list) i 0 (omega (arith, long)) (omega (arith, long))))

  pub written_all : (out : List ℕ) → out ≡ written_to (length list) → out ≡ reversed list ++ drop (length list) out₀
  written_all out e =
      e ∙ ap (λ l. l ++ drop (length list) out₀) (ap (λ n. take n (reversed list)) (sym (reversed-length list)) ∙ take-length (reversed list))
