-- Tests of bytes and fields in words.
use mathlib.Core.Path.{◌≡◌, refl}
use mathlib.Core.Bool.{Bool, true}
use mathlib.Core.List.{[], ◌∷◌}
use mathlib.Core.Logic.{◌↔◌, ◌⊎◌, inl, inr, ⊎_elim}
use Prim.Native.Nat.{ℕ, zero, suc}
use native.Mathlib.Omega.{arith}
use borrow.Author.Tests.{leb-true, le-leb, eqb-true, eq-eqb}
use Rattle.paper.specs.Basics.{◌or◌}
use Rattle.paper.specs.Text.{Text, all, is_digit, is_point, sized, is_number}
use Rattle.paper.proofs.Tests.{and_left, and_right, and_both, or_left, or_right, or_cases}
use Rattle.layouts.specs.Words.{Digit, Point, Each, Sized, Number}

-- each byte passes
pub all-exactly : (q : ℕ → Bool) (P : ℕ → Type 0) → ((b : ℕ) → (q b ≡ true) ↔ P b) → (l : Text) → (all q l ≡ true) ↔ Each P l
unfolding all
all-exactly q P f l = (to l, from l)
  where
    to : (l : Text) → all q l ≡ true → Each P l
    to [] h i k = absurd (omega arith)
    to (b ∷ l) h zero k = (f b).0 (and_left _ _ h)
    to (b ∷ l) h (suc i) k = to l (and_right _ _ h) i (omega arith)

    from : (l : Text) → Each P l → all q l ≡ true
    from [] g = refl
    from (b ∷ l) g = and_both _ _ ((f b).1 (g 0 (omega arith))) (from l (λ i k. g (suc i) (omega arith)))

pub digit-exactly : (b : ℕ) → (is_digit b ≡ true) ↔ Digit b
unfolding is_digit
digit-exactly b = (
  λ h. (leb-true _ _ (and_left _ _ h), leb-true _ _ (and_right _ _ h)),
  λ d. and_both _ _ (le-leb _ _ d.0) (le-leb _ _ d.1),
)

pub point-exactly : (b : ℕ) → (is_point b ≡ true) ↔ Point b
unfolding is_point
point-exactly b = (λ h. eqb-true _ _ h, λ e. eq-eqb _ _ e)

pub digit-or-point : (b : ℕ) → (is_digit b or is_point b ≡ true) ↔ (Digit b ⊎ Point b)
digit-or-point b = (
  λ h. or_cases _ _ h (λ d. inl ((digit-exactly b).0 d)) (λ p. inr ((point-exactly b).0 p)),
  λ t. ⊎_elim (λ d. or_left _ _ ((digit-exactly b).1 d)) (λ p. or_right _ _ ((point-exactly b).1 p)) t,
)

pub sized-exactly : (k : ℕ) (l : Text) → (sized k l ≡ true) ↔ Sized k l
unfolding sized
sized-exactly k l = (
  λ h. record { least = leb-true _ _ (and_left _ _ h); most = leb-true _ _ (and_right _ _ h) },
  λ s. and_both _ _ (le-leb _ _ s.least) (le-leb _ _ s.most),
)

pub number-exactly : (k : ℕ) (l : Text) → (is_number k l ≡ true) ↔ Number k l
unfolding is_number
number-exactly k l = (
  λ h. record { size = (sized-exactly k l).0 (and_left _ _ h); digits = (all-exactly is_digit Digit digit-exactly l).0 (and_right _ _ h) },
  λ n. and_both _ _ ((sized-exactly k l).1 n.size) ((all-exactly is_digit Digit digit-exactly l).1 n.digits),
)
