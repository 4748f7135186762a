-- "numbered row by row": a bay's number is the number of bays before its cell, so numbers rise from cell to cell, and every number below the bay count is one cell's.
use mathlib.Core.Path.{◌≡◌, refl, sym, ◌∙◌, ap}
use mathlib.Core.Bool.{true}
use mathlib.Core.List.{List, [], ◌∷◌}
use mathlib.Core.Logic.{◌⊎◌, ⊎_elim}
use mathlib.Core.Option.{some}
use Prim.Native.Nat.{ℕ, zero, suc, ◌<◌, ◌≤◌, ◌+◌, ◌*◌}
use native.Mathlib.Omega.{arith}
use native.Mathlib.Nat.{mul-le-mul, add-mul}
use lib.Dec.{ltb}
use lib.ListN.{length, get_or, take, get_or-eq_default}
use lib.Seq.{take-length}
use borrow.Author.Tests.{ltb-true, ltb-false, lt-ltb}
use Rattle.paper.specs.Basics.{◌and◌, ◌or◌}
use Rattle.paper.specs.Yard.{Bay}
use Rattle.paper.specs.Text.{Text, count}
use Rattle.paper.specs.Map.{Grid, bay_letter, cells, bay_at, number_at, bay_count, bay_in}
use Rattle.paper.proofs.Tests.{by_cases, not-both, and_left, and_right, and_both, some-when}

-- ## Letters in a text

count-rises : (l : Text) (i j : ℕ) → i < j → bay_letter (get_or l i 64) ≡ true → count bay_letter (take i l) < count bay_letter (take j l)
unfolding count bay_letter ◌or◌
count-rises [] i j k h = not-both h refl
count-rises (b ∷ l) i zero k h = absurd (omega arith)
count-rises (b ∷ l) zero (suc j) k h = let e : bay_letter b ≡ true = h in rw e (omega arith)
count-rises (b ∷ l) (suc i) (suc j) k h =
    let ih = count-rises l i j (omega arith) h in
    by_cases (bay_letter b) (λ e. rw e (omega arith)) (λ e. rw e ih)

count-place : (l : Text) (n : ℕ) → n < count bay_letter l → (i : ℕ) × (bay_letter (get_or l i 64) ≡ true) × (count bay_letter (take i l) ≡ n)
unfolding count
count-place [] n h = absurd (omega arith)
count-place (b ∷ l) n h =
    by_cases (bay_letter b)
    (λ e. here e n (rw e at h) (λ m k. count-place l m k))
    (λ e. let r = count-place l n (rw e at h) in (suc r.0, r.1, rw e r.2))
  where
    here : bay_letter b ≡ true → (n : ℕ) → n < suc (count bay_letter l)
        → ((m : ℕ) → m < count bay_letter l → (i : ℕ) × (bay_letter (get_or l i 64) ≡ true) × (count bay_letter (take i l) ≡ m))
        → (i : ℕ) × (bay_letter (get_or (b ∷ l) i 64) ≡ true) × (count bay_letter (take i (b ∷ l)) ≡ n)
    here e zero k f = (0, e, refl)
    here e (suc m) k f = let r = f m (omega arith) in (suc r.0, r.1, rw e (ap suc r.2))

module _ (G : Grid) where
  -- beyond the last letter there is no bay
  pub bay-inside : (i : ℕ) → bay_at G i ≡ true → i < length (cells G)
  unfolding bay_at bay_letter ◌or◌
  bay-inside i h =
      by_cases (ltb i (length (cells G)))
      (λ l. ltb-true _ _ l)
      (λ l.
      let e : get_or (cells G) i 64 ≡ 64 = get_or-eq_default (cells G) 64 (ltb-false _ _ l) in
      not-both (sym (ap bay_letter e) ∙ h) refl)

  -- a later cell's bay has a higher number
  pub number-rises : (i j : ℕ) → i < j → bay_at G i ≡ true → number_at G i < number_at G j
  unfolding number_at bay_at
  number-rises i j l h = count-rises (cells G) i j l h

  pub number-inside : (i : ℕ) → bay_at G i ≡ true → number_at G i < bay_count G
  unfolding number_at bay_at bay_count
  number-inside i h = rw take-length at (count-rises (cells G) i (length (cells G)) (bay-inside i h) h)

  -- each number below the bay count is some cell's
  pub number-place : (b : Bay) → b < bay_count G → (i : ℕ) × (bay_at G i ≡ true) × (number_at G i ≡ b)
  unfolding number_at bay_at bay_count
  number-place b l = count-place (cells G) b l

  -- ## By column and row

  -- what stands in a cell
  pub cell-of : (x y : ℕ) (b : Bay) → bay_in G x y ≡ some b
      → (x < G.width) × (y < G.height) × (bay_at G (y * G.width + x) ≡ true) × (number_at G (y * G.width + x) ≡ b)
  unfolding bay_in
  cell-of x y b h =
      let w = some-when (ltb x G.width and ltb y G.height and bay_at G (y * G.width + x)) (number_at G (y * G.width + x)) h in
      let a = and_left _ _ w.0 in
      (ltb-true _ _ (and_left _ _ a), ltb-true _ _ (and_right _ _ a), and_right _ _ w.0, w.1)

  pub cell-is : (x y i : ℕ) → y * G.width + x ≡ i → x < G.width → y < G.height → bay_at G i ≡ true → bay_in G x y ≡ some (number_at G i)
  unfolding bay_in
  cell-is x y i e k l h =
      let t : ltb x G.width and ltb y G.height and bay_at G (y * G.width + x) ≡ true =
      and_both _ _ (and_both _ _ (lt-ltb _ _ k) (lt-ltb _ _ l)) (ap (bay_at G) e ∙ h) in
      rw t (ap (λ j. some (number_at G j)) e)

  -- Bays are numbered row by row, and in a row from left to right.
  pub row-by-row : (x y x' y' : ℕ) (a b : Bay) → bay_in G x y ≡ some a → bay_in G x' y' ≡ some b → (y < y') ⊎ ((y ≡ y') × (x < x')) → a < b
  row-by-row x y x' y' a b h k o =
      let c = cell-of x y a h in
      let d = cell-of x' y' b k in
      let before : y * G.width + x < y' * G.width + x' = ⊎_elim
      (λ l. earlier-row c.0 l)
      (λ e. let z : y * G.width ≡ y' * G.width = ap (λ t. t * G.width) e.0 in omega (arith, z, e.1))
      o in
      let r = number-rises (y * G.width + x) (y' * G.width + x') before c.2 in
      rw (c.3, d.3) at r
    where
      earlier-row : x < G.width → y < y' → y * G.width + x < y' * G.width + x'
      earlier-row k l =
          let one : suc y ≡ 1 + y = omega arith in
          let p : suc y * G.width ≡ 1 * G.width + y * G.width = ap (λ t. t * G.width) one ∙ add-mul 1 y G.width in
          let same : G.width ≤ G.width = omega arith in
          let m : suc y * G.width ≤ y' * G.width = mul-le-mul l same in
          omega arith
