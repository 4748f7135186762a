-- In a legal plan the leavings of a bay and the crossings into it alternate: once left the bay is empty, and from an empty bay nobody leaves.
use mathlib.Core.Path.{◌≡◌, sym, ◌∙◌}
use mathlib.Core.Bool.{true}
use mathlib.Core.List.{List, [], ◌∷◌}
use Prim.Native.Nat.{ℕ, zero, suc, ◌<◌}
use native.Mathlib.Omega.{arith}
use lib.ListN.{length, get_or}
use Rattle.paper.specs.Basics.{Out}
use Rattle.paper.specs.Yard.{Bay, Yard, Placement, Crossing, move, legal_plan, named}
use Rattle.paper.proofs.Playing.{Apart, legal-facts, plan-head, plan-tail, out-no, move-apart, move-empties, move-out}
use Rattle.trips.specs.Names.{left}
use Rattle.trips.proofs.Naming.{left_in, left_out, by_byte}

module _ (Y : Yard) (b : Bay) where
  -- from an empty bay nobody leaves before somebody has entered it
  nobody-leaves : (q : Placement) (gs : List ℕ) (xs : List Crossing) → length gs ≡ length xs → Out b q → legal_plan Y q (left gs xs) ≡ true
      → (p : ℕ) → p < length gs → get_or gs p 0 ≡ 0 → (named xs p).from ≡ b
      → ((m : ℕ) → m < p → get_or gs m 0 ≡ 0 → (named xs m).to ≡ b → ⊥) → ⊥
  nobody-leaves q [] xs len o h p l z f n = omega arith
  nobody-leaves q (g ∷ gs) [] len o h p l z f n = omega arith
  nobody-leaves q (g ∷ gs) (x ∷ xs) len o h zero l z f n =
      let k : legal_plan Y q (x ∷ left gs xs) ≡ true = rw (left_in g gs x xs z) at h in
      let t = legal-facts Y q x (plan-head Y q x (left gs xs) k) in
      out-no q b o x.carrier t.there (t.stands ∙ f)
  nobody-leaves q (g ∷ gs) (x ∷ xs) len o h (suc p) l z f n =
      by_byte g
      (λ y.
      let k : legal_plan Y q (x ∷ left gs xs) ≡ true = rw (left_in g gs x xs y) at h in
      let t = legal-facts Y q x (plan-head Y q x (left gs xs) k) in
      let o' = move-out Y q x t b o (λ e. n 0 (omega arith) y (sym e)) in
      nobody-leaves (move q x) gs xs (omega arith) o' (plan-tail Y q x (left gs xs) k) p (omega arith) z f (λ m j. n (suc m) (omega arith)))
      (λ y.
      let k : legal_plan Y q (left gs xs) ≡ true = rw (left_out g gs x xs y) at h in
      nobody-leaves q gs xs (omega arith) o k p (omega arith) z f (λ m j. n (suc m) (omega arith)))

  -- between two leavings of a bay somebody enters it
  pub two-leave : (q : Placement) (gs : List ℕ) (xs : List Crossing) → length gs ≡ length xs → Apart q → legal_plan Y q (left gs xs) ≡ true
      → (k p : ℕ) → k < p → p < length gs → get_or gs k 0 ≡ 0 → get_or gs p 0 ≡ 0 → (named xs k).from ≡ b → (named xs p).from ≡ b
      → ((m : ℕ) → k < m → m < p → get_or gs m 0 ≡ 0 → (named xs m).to ≡ b → ⊥) → ⊥
  two-leave q [] xs len apart h k p l r y z e f n = omega arith
  two-leave q (g ∷ gs) [] len apart h k p l r y z e f n = omega arith
  two-leave q (g ∷ gs) (x ∷ xs) len apart h k zero l r y z e f n = omega arith
  two-leave q (g ∷ gs) (x ∷ xs) len apart h zero (suc p) l r y z e f n =
      let j : legal_plan Y q (x ∷ left gs xs) ≡ true = rw (left_in g gs x xs y) at h in
      let t = legal-facts Y q x (plan-head Y q x (left gs xs) j) in
      let o : Out b (move q x) = rw e at (move-empties Y q x t apart) in
      nobody-leaves (move q x) gs xs (omega arith) o (plan-tail Y q x (left gs xs) j) p (omega arith) z f (λ m i. n (suc m) (omega arith) (omega arith))
  two-leave q (g ∷ gs) (x ∷ xs) len apart h (suc k) (suc p) l r y z e f n =
      by_byte g
      (λ w.
      let j : legal_plan Y q (x ∷ left gs xs) ≡ true = rw (left_in g gs x xs w) at h in
      let t = legal-facts Y q x (plan-head Y q x (left gs xs) j) in
      two-leave (move q x) gs xs (omega arith) (move-apart Y q x t apart) (plan-tail Y q x (left gs xs) j) k p (omega arith) (omega arith) y z e f
      (λ m u v. n (suc m) (omega arith) (omega arith)))
      (λ w.
      let j : legal_plan Y q (left gs xs) ≡ true = rw (left_out g gs x xs w) at h in
      two-leave q gs xs (omega arith) apart j k p (omega arith) (omega arith) y z e f (λ m u v. n (suc m) (omega arith) (omega arith)))
