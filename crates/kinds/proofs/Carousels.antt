-- A carousel by its table: the bays are asked one after the other, and the first that has not two rails tells that it is none.
-- Assumes nothing.
use mathlib.Core.Path.{◌≡◌, sym, ◌∙◌, ap}
use mathlib.Core.Bool.{true, false, not}
use mathlib.Core.List.{List}
use Prim.Native.Nat.{ℕ, ◌≤◌, ◌<◌, ◌+◌}
use native.Mathlib.Omega.{arith}
use lib.Dec.{eqb}
use borrow.Author.Tests.{eq-eqb, ne_eqb, not-true}
use native.Mathlib.Decide.{ℕ_discrete}
use Rattle.paper.specs.Basics.{any, up_to}
use Rattle.paper.specs.Yard.{Yard, rails_at, carousel}
use Rattle.paper.proofs.Tests.{by_cases, not-both}
use Rattle.paper.proofs.Members.{any_some, any_of, in_count, count-high}
use Rattle.words.specs.Sets.{span}
use Rattle.yard.specs.Table.{Table}
use Rattle.choice.specs.Taking.{rails}
use Rattle.choice.proofs.Counting.{table-rails}

module _ (Y : Yard) {n : ℕ} {table : List ℕ} (t : Table Y n table) (most : n ≤ span) where
  pub not-carousel : (v : ℕ) → v < n → (rails table v ≡ 2 → ⊥) → false ≡ carousel Y
  unfolding carousel
  not-carousel v h ne =
      let other : not (eqb (rails_at Y v) 2) ≡ true = ap not (ne_eqb (rails_at Y v) 2 (λ e. ne (table-rails t most v h ∙ e))) in
      sym (ap not (any_of (λ w. not (eqb (rails_at Y w) 2)) (up_to Y.bays) v (in_count 0 Y.bays v (omega arith) (omega (arith, t.bays))) other))

  pub is_one : ((a : ℕ) → a < n → rails table a ≡ 2) → true ≡ carousel Y
  unfolding carousel
  is_one two =
      by_cases (any (λ w. not (eqb (rails_at Y w) 2)) (up_to Y.bays))
      (λ e.
      let w = any_some (λ w. not (eqb (rails_at Y w) 2)) (up_to Y.bays) e in
      let h : w.0 < n = let k = count-high 0 Y.bays w.0 w.1 in omega (arith, t.bays) in
      not-both (eq-eqb (rails_at Y w.0) 2 (sym (table-rails t most w.0 h) ∙ two w.0 h)) (not-true (eqb (rails_at Y w.0) 2) w.2))
      (λ e. sym (ap not e))
