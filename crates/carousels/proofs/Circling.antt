-- Places counted round a ring. One goes from i to j straight on, or past the last place: each law is checked in both cases.
use mathlib.Core.Path.{◌≡◌}
use mathlib.Core.Logic.{inl, inr}
use Prim.Native.Nat.{ℕ, suc, ◌<◌, ◌≤◌, ◌+◌}
use native.Mathlib.Omega.{arith}
use lib.Dec.{ltb}
use borrow.Author.Tests.{ltb-true, ltb-false}
use Rattle.paper.proofs.Tests.{by_cases}
use Rattle.carousels.specs.Round.{Next}
use Rattle.carousels.specs.Order.{ahead, further}

module _ (n : ℕ) where
  -- straight on, or past the last place
  pub by-round : {P : Type 0} (i j : ℕ) → i < n → (i ≤ j → i + ahead n i j ≡ j → P) → (j < i → i + ahead n i j ≡ n + j → P) → P
  unfolding ahead
  by-round i j h f g =
      by_cases (ltb j i)
      (λ e. let l = ltb-true j i e in g l (rw e (omega arith)))
      (λ e. let l = ltb-false j i e in f l (rw e (omega arith)))

  pub ahead-low : (i j : ℕ) → i < n → j < n → ahead n i j < n
  ahead-low i j hi hj = by-round i j hi (λ l e. omega arith) (λ l e. omega arith)

  pub ahead-self : (i : ℕ) → i < n → ahead n i i ≡ 0
  ahead-self i hi = by-round i i hi (λ l e. omega arith) (λ l e. absurd (omega arith))

  -- no two places come equally far on
  pub ahead-same : (i j k : ℕ) → i < n → j < n → k < n → ahead n i j ≡ ahead n i k → j ≡ k
  ahead-same i j k hi hj hk same =
      by-round i j hi
      (λ l e. by-round i k hi (λ m f. omega arith) (λ m f. absurd (omega arith)))
      (λ l e. by-round i k hi (λ m f. absurd (omega arith)) (λ m f. omega arith))

  pub ahead-some : (i j : ℕ) → i < n → j < n → (i ≡ j → ⊥) → 0 < ahead n i j
  ahead-some i j hi hj ne = by-round i j hi (λ l e. omega arith) (λ l e. omega arith)

  -- from the next place it is one less
  pub from_next : (i i' j : ℕ) → i < n → i' < n → j < n → Next n i i' → (i ≡ j → ⊥) → ahead n i j ≡ suc (ahead n i' j)
  from_next i i' j hi hi' hj (inl s) ne =
      by-round i j hi
      (λ l e. by-round i' j hi' (λ m f. omega arith) (λ m f. absurd (omega arith)))
      (λ l e. by-round i' j hi' (λ m f. absurd (omega arith)) (λ m f. omega arith))
  from_next i i' j hi hi' hj (inr s) ne =
      let last = s.0 in
      let first = s.1 in
      by-round i j hi
      (λ l e. absurd (omega arith))
      (λ l e. by-round i' j hi' (λ m f. omega arith) (λ m f. absurd (omega arith)))

  -- to the next place it is one more
  pub to-next : (i j j' : ℕ) → i < n → j < n → j' < n → Next n j j' → (i ≡ j' → ⊥) → ahead n i j' ≡ suc (ahead n i j)
  to-next i j j' hi hj hj' (inl s) ne =
      by-round i j hi
      (λ l e. by-round i j' hi (λ m f. omega arith) (λ m f. absurd (omega arith)))
      (λ l e. by-round i j' hi (λ m f. absurd (omega arith)) (λ m f. omega arith))
  to-next i j j' hi hj hj' (inr s) ne =
      let last = s.0 in
      let first = s.1 in
      by-round i j hi
      (λ l e. by-round i j' hi (λ m f. absurd (omega arith)) (λ m f. omega arith))
      (λ l e. absurd (omega arith))

  -- there and on round to the start again it is n places
  pub ahead-back : (i j : ℕ) → i < n → j < n → (i ≡ j → ⊥) → ahead n i j + ahead n j i ≡ n
  ahead-back i j hi hj ne =
      by-round i j hi
      (λ l e. by-round j i hj (λ m f. absurd (omega arith)) (λ m f. omega arith))
      (λ l e. by-round j i hj (λ m f. omega arith) (λ m f. absurd (omega arith)))

  -- seen from g, which comes between u and x
  pub seen-between : (u g x : ℕ) → u < n → g < n → x < n → ahead n u g ≤ ahead n u x → ahead n u g + ahead n g x ≡ ahead n u x
  seen-between u g x hu hg hx h =
      by-round u g hu
      (λ l e. by-round u x hu
      (λ m f. by-round g x hg (λ k d. omega arith) (λ k d. absurd (omega arith)))
      (λ m f. by-round g x hg (λ k d. absurd (omega arith)) (λ k d. omega arith)))
      (λ l e. by-round u x hu
      (λ m f. absurd (omega arith))
      (λ m f. by-round g x hg (λ k d. omega arith) (λ k d. absurd (omega arith))))

  -- seen from g, which comes after x on the way from u
  pub seen-past : (u g x : ℕ) → u < n → g < n → x < n → ahead n u x < ahead n u g → ahead n u g + ahead n g x ≡ n + ahead n u x
  seen-past u g x hu hg hx h =
      by-round u g hu
      (λ l e. by-round u x hu
      (λ m f. by-round g x hg (λ k d. absurd (omega arith)) (λ k d. omega arith))
      (λ m f. absurd (omega arith)))
      (λ l e. by-round u x hu
      (λ m f. by-round g x hg (λ k d. omega arith) (λ k d. absurd (omega arith)))
      (λ m f. by-round g x hg (λ k d. absurd (omega arith)) (λ k d. omega arith)))

  -- ## Going on by so many places

  -- with or without passing the last place
  by-further : {P : Type 0} (i d : ℕ) → (i + d < n → further n i d ≡ i + d → P) → (n ≤ i + d → further n i d + n ≡ i + d → P) → P
  unfolding further
  by-further i d f g =
      by_cases (ltb (i + d) n)
      (λ e. f (ltb-true (i + d) n e) (rw e))
      (λ e. let l = ltb-false (i + d) n e in g l (rw e (omega arith)))

  pub further-low : (i d : ℕ) → i < n → d < n → further n i d < n
  further-low i d hi hd = by-further i d (λ l e. omega arith) (λ l e. omega arith)

  pub further-none : (i : ℕ) → i < n → further n i 0 ≡ i
  further-none i hi = by-further i 0 (λ l e. omega arith) (λ l e. absurd (omega arith))

  pub ahead-further : (i d : ℕ) → i < n → d < n → ahead n i (further n i d) ≡ d
  ahead-further i d hi hd =
      by-further i d
      (λ l e. by-round i (further n i d) hi (λ m f. omega arith) (λ m f. absurd (omega arith)))
      (λ l e. by-round i (further n i d) hi (λ m f. absurd (omega arith)) (λ m f. omega arith))

  pub further-ahead : (i j : ℕ) → i < n → j < n → further n i (ahead n i j) ≡ j
  further-ahead i j hi hj =
      let low = ahead-low i j hi hj in
      ahead-same i (further n i (ahead n i j)) j hi (further-low i (ahead n i j) hi low) hj (ahead-further i (ahead n i j) hi low)

  pub further-next : (i d : ℕ) → i < n → suc d < n → Next n (further n i d) (further n i (suc d))
  further-next i d hi hd =
      by-further i d
      (λ l e. by-further i (suc d) (λ m f. inl (omega arith)) (λ m f. inr (omega arith, omega arith)))
      (λ l e. by-further i (suc d) (λ m f. absurd (omega arith)) (λ m f. inl (omega arith)))
