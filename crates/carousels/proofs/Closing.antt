-- The walk round closes at bay 0. The first bay that it comes to twice can be no other: a bay that the walk has passed has both its
-- neighbours on the walk already. It must come to some bay twice, since a yard has only so many bays.
use mathlib.Core.Path.{◌≡◌, refl, sym, ◌∙◌, ap}
use mathlib.Core.Bool.{true}
use mathlib.Core.Logic.{◌⊎◌, inl, inr, ⊎_elim}
use Prim.Native.Nat.{ℕ, zero, suc, ◌<◌, ◌≤◌}
use native.Mathlib.Omega.{arith}
use lib.Dec.{eqb, ltb}
use borrow.Author.Tests.{eqb-true, eqb-false, ltb-true, ltb-false}
use Rattle.paper.specs.Yard.{Bay, Yard, joined}
use Rattle.paper.proofs.Tests.{by_cases}
use Rattle.paper.proofs.Rings.{joined-sym}
use Rattle.paper.proofs.Playing.{Sound}
use Rattle.carousels.specs.Round.{Next}
use Rattle.carousels.proofs.Crowding.{no_more}
use Rattle.carousels.proofs.GoingRound.{GoingRound}

-- the first k bays of the walk are different bays
abbrev pub Different : (ℕ → Bay) → ℕ → Type 0
Different at k = (i j : ℕ) → i < k → j < k → at i ≡ at j → i ≡ j

-- the first m bays are different, and the walk is at bay 0 again after m rails
pub record Closed (at : ℕ → Bay) (m : ℕ) : Type 0 where
  pub last : ℕ
  pub count : m ≡ suc last
  pub different : Different at m
  pub closes : at m ≡ at 0

-- ## The first bay that is met twice is bay 0

module _ (Y : Yard) (sound : Sound Y) (w : GoingRound Y) where
  abbrev pub at : ℕ → Bay
  at = w.at

  no-stay : (k : ℕ) → at k ≡ at (suc k) → ⊥
  no-stay k e = sound.no_loop (at (suc k)) (rw e at (w.rail k))

  -- a bay passed before is not met again
  not-passed : (k : ℕ) → Different at (suc k) → (j : ℕ) → suc j ≤ k → at (suc j) ≡ at (suc k) → ⊥
  not-passed k d j l e =
      let back : joined Y (at (suc j)) (at k) ≡ true = rw e (joined-sym Y (at k) (at (suc k)) (w.rail k)) in
      by_cases (eqb (suc j) k)
      (λ z. let same : suc j ≡ k = eqb-true (suc j) k z in no-stay k (ap at (sym same) ∙ e))
      (λ z.
      let other : suc j ≡ k → ⊥ = eqb-false (suc j) k z in
      ⊎_elim
      (λ h. let same = d k j (omega arith) (omega arith) h in omega arith)
      (λ h.
      let same : k ≡ suc (suc j) = d k (suc (suc j)) (omega arith) (omega arith) h in
      w.onward (suc j) (ap (λ i. at (suc i)) (sym same) ∙ sym e))
      (w.only j (at k) back))

  not-met : (k : ℕ) → Different at (suc k) → (at (suc k) ≡ at 0 → ⊥) → (j : ℕ) → j < suc k → at j ≡ at (suc k) → ⊥
  not-met k d n zero l e = n (sym e)
  not-met k d n (suc j) l e = not-passed k d j (omega arith) e

  one_more : (k : ℕ) → Different at (suc k) → (at (suc k) ≡ at 0 → ⊥) → Different at (suc (suc k))
  one_more k d n i j hi hj e =
      by_cases (eqb i (suc k))
      (λ a.
      let x : i ≡ suc k = eqb-true i (suc k) a in
      by_cases (eqb j (suc k))
      (λ b. x ∙ sym (eqb-true j (suc k) b))
      (λ b. let y = eqb-false j (suc k) b in absurd (not-met k d n j (omega arith) (sym e ∙ ap at x))))
      (λ a.
      let x = eqb-false i (suc k) a in
      by_cases (eqb j (suc k))
      (λ b. absurd (not-met k d n i (omega arith) (e ∙ ap at (eqb-true j (suc k) b))))
      (λ b. let y = eqb-false j (suc k) b in d i j (omega arith) (omega arith) e))

  goes_on : (k : ℕ) → ((m : ℕ) × Closed at m) ⊎ Different at (suc k)
  goes_on zero = inr (λ i j hi hj e. omega arith)
  goes_on (suc k) =
      ⊎_elim inl
      (λ d. by_cases (eqb (at (suc k)) (at 0))
      (λ e. inl (suc k, record { last = k; count = refl; different = d; closes = eqb-true _ _ e }))
      (λ e. inr (one_more k d (eqb-false _ _ e))))
      (goes_on k)

  -- ## As many bays as the yard has

  pub few : (k : ℕ) → Different at k → k ≤ Y.bays
  few k d = no_more k Y.bays (λ i l. at i) (λ i l. w.low i) (λ i j hi hj e. d i j hi hj e)

  pub closes-somewhere : (m : ℕ) × Closed at m
  closes-somewhere =
      ⊎_elim (λ c. c) (λ d. let l = few (suc Y.bays) d in absurd (omega arith)) (goes_on Y.bays)

  -- ## Who is beside whom

  module _ (m : ℕ) (c : Closed at m) where
    abbrev pub last : ℕ
    last = c.last

    home-again : at (suc last) ≡ at 0
    home-again = ap at (sym c.count) ∙ c.closes

    not-at-once : last ≡ 0 → ⊥
    not-at-once e = no-stay 0 (sym home-again ∙ ap (λ i. at (suc i)) e)

    not-there-and-back : last ≡ 1 → ⊥
    not-there-and-back e = w.onward 0 (ap (λ i. at (suc i)) (sym e) ∙ home-again)

    pub three-or-more : 3 ≤ m
    three-or-more = omega (arith, c.count, not-at-once, not-there-and-back)

    -- and so it goes on as it began
    round-again : at (suc (suc last)) ≡ at 1
    round-again =
        let count = c.count in
        ⊎_elim
        (λ h. absurd (not-there-and-back (sym (c.different 1 last (let z = not-at-once in omega arith) (omega arith) h))))
        (λ h. sym h)
        (w.only last (at 1) (rw home-again (w.rail 0)))

    -- whatever a bay of the walk is joined with stands beside it on the walk
    pub record Beside (i : ℕ) (x : Bay) : Type 0 where
      pub place : ℕ
      pub low : place < m
      pub is : at place ≡ x
      pub next : Next m i place ⊎ Next m place i

    pub beside-walk : (i : ℕ) → i < m → (x : Bay) → joined Y (at i) x ≡ true → Beside i x
    beside-walk zero l x j =
        let count = c.count in
        ⊎_elim
        (λ h. record { place = last; low = omega arith; is = sym h; next = inr (inr (sym count, refl)) })
        (λ h. record { place = 1; low = (let z = not-at-once in omega arith); is = sym (h ∙ round-again); next = inl (inl refl) })
        (w.only last x (rw home-again j))
    beside-walk (suc i) l x j =
        ⊎_elim
        (λ h. record { place = i; low = omega arith; is = sym h; next = inr (inl refl) })
        (λ h. by_cases (ltb (suc (suc i)) m)
        (λ e. record { place = suc (suc i); low = ltb-true _ _ e; is = sym h; next = inl (inl refl) })
        (λ e.
        let end : suc (suc i) ≡ m = omega (arith, ltb-false (suc (suc i)) m e) in
        record { place = 0; low = omega arith; is = sym (h ∙ ap at end ∙ c.closes); next = inl (inr (end, refl)) }))
        (w.only i x j)
