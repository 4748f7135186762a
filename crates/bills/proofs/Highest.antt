-- The record's highest slot: the slot of some done crossing, none done having a higher one; 0 while nothing is done.
use mathlib.Core.Path.{◌≡◌, refl}
use mathlib.Core.Bool.{true, false}
use mathlib.Core.List.{List, [], ◌∷◌}
use Prim.Native.Nat.{ℕ, zero, suc, ◌<◌, ◌≤◌, max}
use native.Mathlib.Omega.{arith}
use lib.Dec.{leb}
use lib.ListN.{length, get_or}
use borrow.Author.Tests.{leb-true, leb-false}
use Rattle.paper.specs.Yard.{Crossing}
use Rattle.paper.specs.Dependence.{slots, done, is_done}
use Rattle.paper.proofs.Tests.{by_cases, not-both}
use Rattle.bills.specs.Billing.{highest_done}

pub data HighestSlot (ss ms : List ℕ) (high : ℕ) : Type 0 where
  nothing : ((e : ℕ) → e < length ss → is_done ms e ≡ false) → high ≡ 0 → HighestSlot ss ms high
  highest : (i : ℕ) → i < length ss → is_done ms i ≡ true → high ≡ get_or ss i 0
      → ((e : ℕ) → e < length ss → is_done ms e ≡ true → get_or ss e 0 ≤ high) → HighestSlot ss ms high

high-found : (ss ms : List ℕ) → HighestSlot ss ms (highest_done ss ms)
unfolding highest_done
high-found [] ms = nothing (λ e h. absurd (omega arith)) refl
high-found (s ∷ ss) [] = nothing (λ e h. refl) refl
high-found (s ∷ ss) (m ∷ ms) = by_cases (done m) (λ d. rw d (hit d (high-found ss ms))) (λ d. rw d (miss d (high-found ss ms)))
  where
    none_done : done m ≡ false → ((e : ℕ) → e < length ss → is_done ms e ≡ false) → (e : ℕ) → e < length (s ∷ ss) → is_done (m ∷ ms) e ≡ false
    none_done d n zero h = d
    none_done d n (suc e) h = n e (omega arith)

    none-higher : (high : ℕ) → (done m ≡ true → s ≤ high) → ((e : ℕ) → e < length ss → is_done ms e ≡ true → get_or ss e 0 ≤ high)
        → (e : ℕ) → e < length (s ∷ ss) → is_done (m ∷ ms) e ≡ true → get_or (s ∷ ss) e 0 ≤ high
    none-higher high f g zero h d = f d
    none-higher high f g (suc e) h d = g e (omega arith) d

    miss : done m ≡ false → {rest : ℕ} → HighestSlot ss ms rest → HighestSlot (s ∷ ss) (m ∷ ms) rest
    miss d (nothing n q) = nothing (none_done d n) q
    miss d {rest} (highest i h k q f) = highest (suc i) (omega arith) k q (none-higher rest (λ e. not-both e d) f)

    hit : done m ≡ true → {rest : ℕ} → HighestSlot ss ms rest → HighestSlot (s ∷ ss) (m ∷ ms) (max s rest)
    hit d {rest} (nothing n q) = highest 0 (omega arith) d (omega arith) (none-higher (max s rest) (λ e. omega arith) (λ e h k. not-both k (n e h)))
    hit d {rest} (highest i h k q f) =
        by_cases (leb s rest)
        (λ l. let w = leb-true s rest l in
        highest (suc i) (omega arith) k (omega arith) (none-higher (max s rest) (λ e. omega arith) (λ e a b. let z = f e a b in omega arith)))
        (λ l. let w = leb-false s rest l in
        highest 0 (omega arith) d (omega arith) (none-higher (max s rest) (λ e. omega arith) (λ e a b. let z = f e a b in omega arith)))

pub highest-is-highest : (xs : List Crossing) (ms : List ℕ) → HighestSlot (slots xs) ms (highest_done (slots xs) ms)
highest-is-highest xs ms = high-found (slots xs) ms
