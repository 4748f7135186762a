-- One letter more gets the number behind the bays before it, and no other cell's number changes.
use mathlib.Core.Path.{◌≡◌, refl, sym, ◌∙◌, ap}
use mathlib.Core.Bool.{Bool, true, false}
use mathlib.Core.List.{List, [], ◌∷◌, ◌++◌, append-nil}
use Prim.Native.Nat.{ℕ, ◌+◌, ◌≤◌, ◌<◌}
use native.Mathlib.Omega.{arith}
use native.Mathlib.Numerals.{add-one}
use lib.ListN.{length, set, take, drop, get_or, length-append, take-append-drop}
use lib.Seq.{take-suc}
use Rattle.paper.specs.Basics.{filter}
use Rattle.paper.specs.Text.{Text, count}
use Rattle.paper.specs.Map.{bay_letter}
use Rattle.paper.proofs.Tests.{by_cases}
use Rattle.paper.proofs.Members.{filter-append}
use Rattle.sides.specs.Letters.{letter}
use Rattle.stores.specs.Writing.{Wrote}
use Rattle.stores.proofs.Stores.{wrote_one}
use Rattle.gridmap.specs.Cells.{letters, mark_of, count_with, numbering}

filter-one : (q : ℕ → Bool) (x : ℕ) → q x ≡ true → filter q (x ∷ []) ≡ x ∷ []
unfolding filter
filter-one q x e = rw e

filter-not : (q : ℕ → Bool) (x : ℕ) → q x ≡ false → filter q (x ∷ []) ≡ []
unfolding filter
filter-not q x e = rw e

count-append : (q : ℕ → Bool) (a b : Text) → count q (a ++ b) ≡ count q a + count q b
unfolding count
count-append q [] b = omega arith
count-append q (x ∷ a) b = rw (count-append q a b) (by_cases (q x) (λ e. rw e (omega arith)) (λ e. rw e (omega arith)))

pub count-with : (b k : ℕ) (l : Text) → k ≡ count bay_letter l → count_with b k ≡ count bay_letter (l ++ (b ∷ []))
unfolding count_with count
count-with b k l e = rw (e, count-append) (by_cases (bay_letter b) (λ t. rw t) (λ t. rw t (omega arith)))

pub count-step : (x k : ℕ) (a : Text) → count_with x k + count bay_letter a ≡ k + count bay_letter (x ∷ a)
unfolding count_with count
count-step x k a = by_cases (bay_letter x) (λ e. rw e (omega arith)) (λ e. rw e)

numbering-append : (k : ℕ) (a : Text) (b : ℕ) → numbering k (a ++ (b ∷ [])) ≡ numbering k a ++ (mark_of b (k + count bay_letter a) ∷ [])
unfolding numbering count
numbering-append k [] b = let e : k ≡ k + 0 = omega arith in ap (λ n. mark_of b n ∷ []) e
numbering-append k (x ∷ a) b =
    ap (λ l. mark_of x k ∷ l) (numbering-append (count_with x k) a b ∙ ap (λ n. numbering (count_with x k) a ++ (mark_of b n ∷ [])) (count-step x k a))

-- ## The letters of the first i bytes
module _ (file : Text) (i : ℕ) (more : i < length file) where
  pub letters-more : letter (get_or file i 0) ≡ true → letters (take (i + 1) file) ≡ letters (take i file) ++ (get_or file i 0 ∷ [])
  letters-more e =
      rw (add-one i, take-suc file i 0 more) (filter-append letter (take i file) (get_or file i 0 ∷ []) ∙ ap (λ l. letters (take i file) ++ l) (filter-one letter (get_or file i 0) e))

  pub letters-same : letter (get_or file i 0) ≡ false → letters (take (i + 1) file) ≡ letters (take i file)
  letters-same e =
      rw (add-one i, take-suc file i 0 more) (filter-append letter (take i file) (get_or file i 0 ∷ []) ∙ ap (λ l. letters (take i file) ++ l) (filter-not letter (get_or file i 0) e) ∙ append-nil (letters (take i file)))

-- so many letters at most
pub letters-few : (file : Text) (i : ℕ) → length (letters (take i file)) ≤ length (letters file)
letters-few file i =
    let e : letters file ≡ letters (take i file) ++ letters (drop i file) = ap letters (sym (take-append-drop i file)) ∙ filter-append letter (take i file) (drop i file) in
    omega (arith, ap length e, length-append (letters (take i file)) (letters (drop i file)))

pub count-few : (q : ℕ → Bool) (l : Text) → count q l ≤ length l
unfolding count
count-few q [] = omega arith
count-few q (x ∷ l) = let h = count-few q l in by_cases (q x) (λ e. rw e (omega arith)) (λ e. rw e (omega arith))

-- one cell more
pub numbered_more : (b : ℕ) (l : Text) {before now after : List ℕ} {n k m : ℕ} → k ≡ count bay_letter l → Wrote before 0 (numbering 0 l) now n → m ≡ mark_of b k → after ≡ set now n m → Wrote before 0 (numbering 0 (l ++ (b ∷ []))) after (n + 1)
numbered_more b l {before} {now} {after} {n} {k} {m} e w f g =
    let z : 0 + count bay_letter l ≡ k = omega arith in
    rw (numbering-append 0 l b, z, ← f) (wrote_one m w g refl)
