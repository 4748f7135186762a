-- The names to be looked at again are noted one crossing at a time.
use mathlib.Core.Path.{◌≡◌, refl, sym, ◌∙◌, ap}
use mathlib.Core.Bool.{Bool}
use mathlib.Core.List.{List}
use Prim.Native.Nat.{ℕ, suc, ◌≤◌, ◌<◌, ◌+◌}
use native.Mathlib.Omega.{arith}
use lib.Dec.{eqb, ltb}
use lib.ListN.{get_or}
use borrow.Author.Tests.{eqb-true, eqb-false, eq-eqb, ne_eqb, ltb-true, ltb-false}
use Rattle.paper.specs.Basics.{◌or◌}
use Rattle.paper.specs.Yard.{Bay, Carrier, Crossing, crossings, named}
use Rattle.paper.proofs.Tests.{by_cases, not-both, or-false, or-none}
use Rattle.trips.proofs.Freeing.{LastLeaving, Noted}
use Rattle.chains.specs.Links.{Passed}

-- ## The last leaving, looked for downwards

-- none of the names from m to below e that is in the plan leaves b
abbrev pub NoneLeaves : List ℕ → List Crossing → Bay → ℕ → ℕ → Type 0
NoneLeaves gs xs b e m = (j : ℕ) → m ≤ j → j < e → get_or gs j 0 ≡ 0 → (named xs j).from ≡ b → ⊥

module _ (gs : List ℕ) (xs : List Crossing) (b : Bay) (e : ℕ) where
  pub none-start : NoneLeaves gs xs b e e
  none-start j l h z w = omega arith

  pub none_more : (m : ℕ) → NoneLeaves gs xs b e (suc m) → (get_or gs m 0 ≡ 0 → (named xs m).from ≡ b → ⊥) → NoneLeaves gs xs b e m
  none_more m n h j l k =
      by_cases (eqb j m) (λ t. rw (eqb-true j m t) h) (λ t. n j (omega (arith, eqb-false j m t)) k)

  -- and names that are passed do not
  pub none_over : (plan : List ℕ) (key m r : ℕ) → xs ≡ crossings plan → key ≡ b → Passed plan gs 2 key r m → NoneLeaves gs xs b e m → NoneLeaves gs xs b e r
  none_over plan key m r is at p n j l k z w =
      by_cases (ltb j m)
      (λ t. let one = p j l (ltb-true j m t) (ap (λ ys. (named ys j).from) (sym is) ∙ w ∙ sym at) in omega (arith, one, z))
      (λ t. n j (ltb-false j m t) k z w)

  -- the last leaving is not above m
  not-above : (m : ℕ) → NoneLeaves gs xs b e m → (k : ℕ) → LastLeaving gs xs b e k → k < m
  not-above m n k l =
      by_cases (ltb k m)
      (λ t. ltb-true k m t)
      (λ t. absurd (n k (ltb-false k m t) l.before l.stays l.leaves))

  pub leaving-found : (m : ℕ) → m < e → NoneLeaves gs xs b e (suc m) → get_or gs m 0 ≡ 0 → (named xs m).from ≡ b → (k : ℕ) → LastLeaving gs xs b e k → m ≡ k
  leaving-found m h n z w k l =
      let up = not-above (suc m) n k l in
      by_cases (ltb k m)
      (λ t. absurd (l.last m (ltb-true k m t) h z w))
      (λ t. omega (arith, ltb-false k m t))

  pub leaving-none : NoneLeaves gs xs b e 0 → (k : ℕ) → LastLeaving gs xs b e k → e ≡ k
  leaving-none n k l = let z = not-above 0 n k l in absurd (omega arith)

-- ## Noting

module _ (gs : List ℕ) (xs : List Crossing) (c : Carrier) where
  -- nothing to note yet
  pub noted-start : (i low : ℕ) (todo : ℕ → Bool) → Noted gs xs c i 0 todo todo low
  noted-start i low todo = record { fewer = λ k h. h; below = λ k h. refl; noted = λ e k l h. absurd (omega arith) }

  -- the crossing is dropped, or another carrier's
  pub noted-not : (i low : ℕ) (todo : ℕ → Bool) → (get_or gs i 0 ≡ 0 → (named xs i).carrier ≡ c → ⊥) → Noted gs xs c i 1 todo todo low
  noted-not i low todo n = record {
    fewer = λ k h. h;
    below = λ k h. refl;
    noted = λ e k l h u z own f t. let is : e ≡ i = omega arith in n (ap (λ j. get_or gs j 0) (sym is) ∙ z) (ap (λ j. (named xs j).carrier) (sym is) ∙ own);
  }

  -- the last leaving of the bay that it enters is noted
  pub noted_one : (i low p : ℕ) (todo todo' : ℕ → Bool) → ((k : ℕ) → todo' k ≡ todo k or eqb k p) → low ≤ p
      → ((k : ℕ) → LastLeaving gs xs (named xs i).to i k → p ≡ k) → Noted gs xs c i 1 todo todo' low
  noted_one i low p todo todo' adds l found = record {
    fewer = λ k z. (or-none _ _ (sym (adds k) ∙ z)).0;
    below = λ k z. adds k ∙ ap (λ t. todo k or t) (ne_eqb k p (λ e. omega arith)) ∙ or-false (todo k);
    noted = λ e k u v w z own f t.
        let is : e ≡ i = omega arith in
        let same : p ≡ k = found k (rw is at f) in
        not-both (eq-eqb k p (sym same)) (or-none _ _ (sym (adds k) ∙ t)).1;
  }

  -- one after the other
  pub noted-both : (i n j m : ℕ) (todo todo₁ todo₂ : ℕ → Bool) (low low₂ : ℕ) → j ≡ i + n → low₂ ≤ low → Noted gs xs c i n todo todo₁ low
      → Noted gs xs c j m todo₁ todo₂ low₂ → Noted gs xs c i (n + m) todo todo₂ low₂
  noted-both i n j m todo todo₁ todo₂ low low₂ at l a b = record {
    fewer = λ k h. a.fewer k (b.fewer k h);
    below = λ k h. b.below k h ∙ a.below k (omega arith);
    noted = λ e k u v w z own f t.
        by_cases (ltb e (i + n))
        (λ s. a.noted e k u (ltb-true e (i + n) s) w z own f (b.fewer k t))
        (λ s. let up = ltb-false e (i + n) s in b.noted e k (omega arith) (omega arith) w z own f t);
  }

  -- names that are passed have nothing to note
  pub noted-over : (plan : List ℕ) (key i n k j r : ℕ) (todo todo₁ : ℕ → Bool) (low : ℕ) → xs ≡ crossings plan → key ≡ c → j ≡ i + n → r ≡ i + k
      → Passed plan gs 1 key j r → Noted gs xs c i n todo todo₁ low → Noted gs xs c i k todo todo₁ low
  noted-over plan key i n k j r todo todo₁ low is at from to p a = record {
    fewer = a.fewer;
    below = a.below;
    noted = λ e f u v w z own l t.
        by_cases (ltb e (i + n))
        (λ s. a.noted e f u (ltb-true e (i + n) s) w z own l t)
        (λ s.
        let up = ltb-false e (i + n) s in
        let one = p e (omega arith) (omega arith) (ap (λ ys. (named ys e).carrier) (sym is) ∙ own ∙ sym at) in
        omega (arith, one, z));
  }
