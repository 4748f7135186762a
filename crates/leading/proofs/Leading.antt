-- The equal leading crossings: they are equal, they are no more than either list has, and the next two differ. So two lists are equal exactly if the count
-- is the length of both; and what is handed back is, with the equal ones before it, the longer list.
use mathlib.Core.Path.{◌≡◌, refl, sym, ◌∙◌, ap, ap₂}
use mathlib.Core.List.{List, [], ◌∷◌, ◌++◌}
use Prim.Native.Nat.{ℕ, suc, ◌<◌, ◌≤◌}
use native.Mathlib.Omega.{arith}
use borrow.Author.Tests.{eq-eqb, eqb-true, eqb-false, ne_eqb, ltb-true, ltb-false}
use lib.Dec.{eqb, ltb}
use lib.ListN.{length, get_or, take, drop, take-append-drop}
use lib.Seq.{take-length}
use Rattle.paper.proofs.Tests.{by_cases}
use Rattle.leading.specs.Leading.{equal_leading, longer_of, list_of}

pub leading-first : (xs ys : List ℕ) → equal_leading xs ys ≤ length xs
unfolding equal_leading
leading-first [] ys = omega arith
leading-first (x ∷ xs) [] = omega arith
leading-first (x ∷ xs) (y ∷ ys) = let ih = leading-first xs ys in by_cases (eqb x y) (λ e. rw e (omega arith)) (λ e. rw e (omega arith))

pub leading-exchanged : (xs ys : List ℕ) → equal_leading ys xs ≡ equal_leading xs ys
unfolding equal_leading
leading-exchanged [] [] = refl
leading-exchanged [] (y ∷ ys) = refl
leading-exchanged (x ∷ xs) [] = refl
leading-exchanged (x ∷ xs) (y ∷ ys) =
    by_cases (eqb x y)
    (λ e. rw (e, eq-eqb y x (sym (eqb-true x y e))) (ap suc (leading-exchanged xs ys)))
    (λ e. rw (e, ne_eqb y x (λ q. eqb-false x y e (sym q))))

pub leading-second : (xs ys : List ℕ) → equal_leading xs ys ≤ length ys
leading-second xs ys = rw (← leading-exchanged xs ys) (leading-first ys xs)

-- The leading crossings are equal,
pub leading-equal : (xs ys : List ℕ) → take (equal_leading xs ys) xs ≡ take (equal_leading xs ys) ys
unfolding equal_leading
leading-equal [] ys = refl
leading-equal (x ∷ xs) [] = refl
leading-equal (x ∷ xs) (y ∷ ys) = by_cases (eqb x y) (λ e. rw e (ap₂ ◌∷◌ (eqb-true x y e) (leading-equal xs ys))) (λ e. rw e)

-- and the next two are not.
pub next-differs : (xs ys : List ℕ) → equal_leading xs ys < length xs → equal_leading xs ys < length ys
    → get_or xs (equal_leading xs ys) 0 ≡ get_or ys (equal_leading xs ys) 0 → ⊥
unfolding equal_leading
next-differs [] ys = λ h k q. absurd (omega arith)
next-differs (x ∷ xs) [] = λ h k q. absurd (omega arith)
next-differs (x ∷ xs) (y ∷ ys) =
    by_cases (eqb x y)
    (λ e. rw e (λ h k q. next-differs xs ys (omega arith) (omega arith) q))
    (λ e. rw e (λ h k q. eqb-false x y e q))

-- ## Equal lists

leading-self : (xs : List ℕ) → equal_leading xs xs ≡ length xs
unfolding equal_leading
leading-self [] = refl
leading-self (x ∷ xs) = rw (eq-eqb x x refl) (ap suc (leading-self xs))

-- The two lists are equal if and only if the count is the length of both.
pub record EqualExactly (first second : List ℕ) (equal : ℕ) : Type 0 where
  pub only_if : first ≡ second → (equal ≡ length first) × (equal ≡ length second)
  pub where-so : equal ≡ length first → equal ≡ length second → first ≡ second

pub equal-exactly : (first second : List ℕ) → EqualExactly first second (equal_leading first second)
equal-exactly first second = record {
  only_if = λ e. (rw (← e) (leading-self first), rw e (leading-self second));
  where-so = λ h k.
      sym (take-length first) ∙ ap (λ n. take n first) (sym h) ∙ leading-equal first second ∙ ap (λ n. take n second) k ∙ take-length second;
}

-- ## The part handed back

-- `part` is the rest, from the place `equal` on, of that of the two lists which is longer, or of the first
pub record RestOf (first second : List ℕ) (equal which : ℕ) (part : List ℕ) : Type 0 where
  pub begins : (take equal first ≡ take equal second) × (equal ≤ length first) × (equal ≤ length second)
  pub next : equal < length first → equal < length second → get_or first equal 0 ≡ get_or second equal 0 → ⊥
  pub joins : take equal (list_of first second which) ++ part ≡ list_of first second which
  pub placed : part ≡ drop equal (list_of first second which)
  pub longest : (length first ≤ length (list_of first second which)) × (length second ≤ length (list_of first second which))
  pub at-equal : length first ≡ length second → list_of first second which ≡ first

chosen : (first second : List ℕ) (which : ℕ) → which ≡ longer_of first second
    → ((length first ≤ length (list_of first second which)) × (length second ≤ length (list_of first second which)))
    × (length first ≡ length second → list_of first second which ≡ first)
chosen first second which e =
    by_cases (ltb (length first) (length second))
    (λ l.
    let h : length first < length second = ltb-true _ _ l in
    let less : length first ≤ length second = omega arith in
    let same : length second ≤ length second = omega arith in
    let w : which ≡ 2 = e ∙ rw l in
    rw w ((less, same), λ q. absurd (omega arith)))
    (λ l.
    let same : length first ≤ length first = omega arith in
    let w : which ≡ 1 = e ∙ rw l in
    rw w ((same, ltb-false _ _ l), λ q. refl))

pub rest_of : (first second : List ℕ)
    → RestOf first second (equal_leading first second) (longer_of first second) (drop (equal_leading first second) (list_of first second (longer_of first second)))
rest_of first second =
    let pick = chosen first second (longer_of first second) refl in
    record {
      begins = (leading-equal first second, leading-first first second, leading-second first second);
      next = next-differs first second;
      joins = take-append-drop (equal_leading first second) (list_of first second (longer_of first second));
      placed = refl;
      longest = pick.0;
      at-equal = pick.1;
    }
