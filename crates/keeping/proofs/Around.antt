-- The neighbours of a junction without one bay, as a set.
-- Assumes nothing.
use mathlib.Core.Path.{◌≡◌, sym, ◌∙◌, ap, refl}
use mathlib.Core.Bool.{Bool, not}
use mathlib.Core.List.{List, [], ◌∷◌}
use Prim.Native.Nat.{ℕ, suc, zero, ◌≤◌, ◌<◌, ◌+◌}
use native.Mathlib.Omega.{arith}
use lib.Dec.{eqb}
use Rattle.paper.specs.Basics.{◌and◌, ◌or◌, filter, count_from}
use Rattle.paper.specs.Yard.{Bay, Yard, joined}
use Rattle.paper.proofs.Tests.{by_cases, and_left}
use Rattle.words.specs.Sets.{mem, words, span, mem_row}
use Rattle.words.proofs.Sets.{zeros, mem-zeros}
use Rattle.acting.specs.Acting.{Tabled}
use Rattle.keeping.specs.Keeping.{Among}

-- ## Filters

pub filter-both : (f g : ℕ → Bool) (l : List ℕ) → filter g (filter f l) ≡ filter (λ y. f y and g y) l
unfolding filter ◌and◌
filter-both f g [] = refl
filter-both f g (x ∷ l) = by_cases (f x) (λ e. by_cases (g x) (λ d. rw (e, d) (ap (λ (t : List ℕ). x ∷ t) (filter-both f g l))) (λ d. rw (e, d) (filter-both f g l))) (λ e. rw e (filter-both f g l))

pub filter_same : (f g : ℕ → Bool) (a k : ℕ) → ((y : ℕ) → a ≤ y → y < a + k → f y ≡ g y) → filter f (count_from a k) ≡ filter g (count_from a k)
unfolding filter count_from
filter_same f g a zero h = refl
filter_same f g a (suc k) h =
    let r = filter_same f g (suc a) k (λ y i l. h y (omega arith) (omega arith)) in
    rw (h a (omega arith) (omega arith), r)

pub record Around (Y : Yard) (v b : Bay) (n : ℕ) (others : List ℕ) : Type 0 where
  pub bays : Y.bays ≡ n
  pub same : (y : ℕ) → y < n → mem others y ≡ joined Y v y and not (eqb y b)

-- ## What is made of the words

pub around-of : {n : ℕ} {table : List ℕ} (t : Tabled n table) (v b : Bay) (w₁ w₂ : List ℕ) → n ≤ span → v < n
    → ((y : ℕ) → y < span → mem w₁ y ≡ mem (zeros words) y or mem_row table v y) → ((y : ℕ) → mem w₂ y ≡ mem w₁ y and not (eqb y b)) → Around t.yard v b n w₂
unfolding ◌or◌
around-of t v b w₁ w₂ most hv f g = record { bays = t.joins.bays; same = λ y h. g y ∙ rw (f y (omega arith), mem-zeros words y, t.joins.same v y hv (omega arith)) }

pub inside_of : {n : ℕ} {table : List ℕ} (t : Tabled n table) (v b : Bay) (w₁ w₂ : List ℕ) → v < n
    → ((y : ℕ) → y < span → mem w₁ y ≡ mem (zeros words) y or mem_row table v y) → ((y : ℕ) → mem w₂ y ≡ mem w₁ y and not (eqb y b)) → Among n w₂
unfolding ◌or◌
inside_of t v b w₁ w₂ hv f g = record {
  low = λ y h m. (t.joins.inside v y (sym (t.joins.same v y hv h) ∙ sym (f y h ∙ rw (mem-zeros words y)) ∙ and_left _ _ (sym (g y) ∙ m))).1;
}

pub inside-less : {n : ℕ} {w : List ℕ} → Among n w → (x : ℕ) (w' : List ℕ) → ((y : ℕ) → mem w' y ≡ mem w y and not (eqb y x)) → Among n w'
inside-less i x w' f = record { low = λ y h m. i.low y h (and_left _ _ (sym (f y) ∙ m)) }
