-- Rails in the table: one more rail sets its two places, and they are what it joins; so a pair given before is found in its row.
use Rattle.std.proofs.Common.{None, Some}
use mathlib.Core.Path.{◌≡◌, refl, sym, ap, ◌∙◌}
use mathlib.Core.Bool.{Bool, true, false}
use mathlib.Core.List.{List, [], ◌∷◌, ◌++◌}
use mathlib.Core.Option.{none, some}
use Prim.Native.Nat.{ℕ, zero, suc, ◌+◌, ◌*◌, ◌/◌, ◌≤◌, ◌<◌}
use native.Mathlib.Numerals.{add-one}
use native.Mathlib.Omega.{arith}
use lib.Dec.{eqb, leb}
use lib.ListN.{length, get_or, take}
use lib.Seq.{take-suc, take_all}
use borrow.Author.Tests.{eqb-true, eq-eqb, ne_eqb, leb-false}
use Rattle.paper.specs.Basics.{◌and◌, ◌or◌, any, first_bad}
use Rattle.paper.specs.Yard.{Bay, Rail, Yard, joined}
use Rattle.paper.specs.Docket.{rails_of, yard_by, bad_rail}
use Rattle.paper.proofs.Tests.{by_cases, not-both, and_left, and_right, or_left, or_right, or_cases, or-none, never, same_test}
use Rattle.words.specs.Sets.{mem, mem_row, span}
use Rattle.first_bad.specs.Table.{Table}
use Rattle.first_bad.specs.Finding.{Laid, Lays}

-- ---- the rails of a list of ends, by their places

pub rails-length : (ends : List Bay) → length (rails_of ends) ≡ length ends / 2
unfolding rails_of
rails-length [] = refl
rails-length (a ∷ []) = refl
rails-length (a ∷ b ∷ ends) = let ih = rails-length ends in omega arith

pub rails-at : (ends : List Bay) (i : ℕ) → i < length ends / 2 → get_or (rails_of ends) i (0, 0) ≡ (get_or ends (2 * i) 0, get_or ends (2 * i + 1) 0)
unfolding rails_of
rails-at [] i h = absurd (omega arith)
rails-at (a ∷ []) i h = absurd (omega arith)
rails-at (a ∷ b ∷ ends) zero h = refl
rails-at (a ∷ b ∷ ends) (suc i) h =
    let e : 2 * suc i ≡ suc (suc (2 * i)) = omega arith in
    let d : suc (suc (2 * i)) + 1 ≡ suc (suc (2 * i + 1)) = omega arith in
    rw (e, d) (rails-at ends i (omega arith))

-- ---- one rail more

-- the yard of n bays with these rails
abbrev pub with-rails : ℕ → List Rail → Yard
with-rails n rails = record { bays = n; rails = rails }

any_append : (q : Rail → Bool) (xs ys : List Rail) → any q (xs ++ ys) ≡ any q xs or any q ys
unfolding any ◌or◌
any_append q [] ys = refl
any_append q (x ∷ xs) ys = by_cases (q x) (λ e. rw e) (λ e. rw e (any_append q xs ys))

joined-more : (n : ℕ) (rails : List Rail) (r : Rail) (x y : Bay) → joined (with-rails n (rails ++ (r ∷ []))) x y
    ≡ joined (with-rails n rails) x y or ((eqb x r.0 and eqb y r.1) or (eqb x r.1 and eqb y r.0))
unfolding joined
joined-more n rails r x y =
    let one : (q : Rail → Bool) → any q (r ∷ []) ≡ q r = λ q. unfold any in same_test (q r) in
    any_append _ rails (r ∷ []) ∙ ap (λ (t : Bool). joined (with-rails n rails) x y or t) (one _)

same_place : (a b x y : ℕ) → b < span → y < span → eqb (a * span + b) (x * span + y) ≡ eqb a x and eqb b y
unfolding ◌and◌
same_place a b x y h k =
    by_cases (eqb a x)
    (λ e. by_cases (eqb b y)
    (λ d. let p = eqb-true a x e in let q = eqb-true b y d in rw (e, d) (eq-eqb (a * span + b) (x * span + y) (omega arith)))
    (λ d. rw (e, d) (ne_eqb (a * span + b) (x * span + y) (λ z. not-both (eq-eqb b y (omega arith)) d))))
    (λ e. rw e (ne_eqb (a * span + b) (x * span + y) (λ z. not-both (eq-eqb a x (omega arith)) e)))

or-three : (p q r : Bool) → p or q or r ≡ p or (q or r)
unfolding ◌or◌
or-three true q r = refl
or-three false q r = refl

no-rail : (n : ℕ) (a b : Bay) → joined (with-rails n []) a b ≡ false
unfolding joined any
no-rail n a b = refl

pub laid_none : (n : ℕ) (table : List ℕ) → ((x : ℕ) → mem table x ≡ false) → Laid n [] table
laid_none n table h = record {
  rows = λ a b k. h (a * span + b) ∙ sym (no-rail n a b);
  inside = λ a b j. not-both j (no-rail n a b);
}

pub laid_more : (n : ℕ) (rails : List Rail) (a b : Bay) (table table' : List ℕ) → n ≤ span → a < n → b < n → Laid n rails table
    → ((x : ℕ) → mem table' x ≡ mem table x or eqb x (a * span + b) or eqb x (b * span + a)) → Laid n (rails ++ ((a, b) ∷ [])) table'
laid_more n rails a b table table' most ha hb l h = record {
  rows = λ x y k.
      h (x * span + y)
      ∙ rw (same_place x y a b k (omega arith), same_place x y b a k (omega arith), l.rows x y k)
      (or-three _ _ _ ∙ sym (joined-more n rails (a, b) x y));
  inside = λ x y j.
      or_cases _ _ (sym (joined-more n rails (a, b) x y) ∙ j)
      (λ e. l.inside x y e)
      (λ e. or_cases _ _ e
      (λ d. let p = eqb-true x a (and_left _ _ d) in let q = eqb-true y b (and_right _ _ d) in (omega arith, omega arith))
      (λ d. let p = eqb-true x b (and_left _ _ d) in let q = eqb-true y a (and_right _ _ d) in (omega arith, omega arith)));
}

-- the rails up to the next one
pub laid_on : (n : ℕ) (rails : List Rail) (i a b : ℕ) (table table' : List ℕ) → n ≤ span → a < n → b < n → i < length rails
    → get_or rails i (0, 0) ≡ (a, b) → Laid n (take i rails) table
    → ((x : ℕ) → mem table' x ≡ mem table x or eqb x (a * span + b) or eqb x (b * span + a)) → Laid n (take (i + 1) rails) table'
laid_on n rails i a b table table' most ha hb hi e l h =
    let one : take (suc i) rails ≡ take i rails ++ ((a, b) ∷ []) = take-suc rails i (0, 0) hi ∙ rw e in
    rw (add-one, one) (laid_more n (take i rails) a b table table' most ha hb l h)

-- a pair given before, in either direction, is one whose second bay is in the first one's row
pub bad-in-table : (n : ℕ) (before : List Rail) (table : List ℕ) (a b : Bay) → n ≤ span → Laid n before table
    → bad_rail n before (a, b) ≡ leb n a or leb n b or eqb a b or mem_row table a b
unfolding bad_rail
bad-in-table n before table a b most l =
    by_cases (leb n b)
    (λ e. settled (leb n a) (leb n b) (eqb a b) _ _ e)
    (λ e. let k = leb-false n b e in rw (l.rows a b (omega arith)))
  where
    settled : (p q r s t : Bool) → q ≡ true → p or q or r or s ≡ p or q or r or t
    settled p q r s t e = rw (e, or_right p true refl) (or_left _ s (or_left true r refl) ∙ sym (or_left _ t (or_left true r refl)))

pub table_of : (n : ℕ) (ends : List Bay) (table : List ℕ) → Laid n (rails_of ends) table → Table (yard_by n ends) n table
table_of n ends table l = record { bays = refl; same = λ a b h k. l.rows a b k; inside = l.inside }

pub empty-beyond : (n : ℕ) (rails : List Rail) (table : List ℕ) → Laid n rails table → (a b : ℕ) → n ≤ a → b < span → mem_row table a b ≡ false
empty-beyond n rails table l a b h k =
    l.rows a b k ∙ by_cases (joined (with-rails n rails) a b) (λ j. absurd (omega (arith, (l.inside a b j).0))) (λ e. e)

-- ---- the loop over the rails

module _ (n : ℕ) (ends : List Bay) (i : ℕ) (table : List ℕ) (most : n ≤ span) (h : i < length ends / 2)
    (l : Laid n (take i (rails_of ends)) table) where
  -- the ends of the rail at hand
  abbrev pub a : Bay
  a = get_or ends (2 * i) 0

  abbrev pub b : Bay
  b = get_or ends (2 * i + 1) 0

  pub rail-tested : (r : Bool) → r ≡ leb n a or leb n b or eqb a b or mem_row table a b
      → bad_rail n (take i (rails_of ends)) (get_or (rails_of ends) i (0, 0)) ≡ r
  rail-tested r e = rw (rails-at ends i h) (bad-in-table n (take i (rails_of ends)) table a b most l ∙ sym e)

  -- a rail that is not bad has bays for its ends
  pub rail-inside : (r : Bool) → r ≡ leb n a or leb n b or eqb a b or mem_row table a b → r ≡ false → (a < n) × (b < n)
  rail-inside r e f =
      let p = or-none _ _ (or-none _ _ (or-none _ _ (sym e ∙ f)).0).0 in
      (leb-false n a p.0, leb-false n b p.1)

  pub rail-laid : (table' : List ℕ) → a < n → b < n
      → ((x : ℕ) → mem table' x ≡ mem table x or eqb x (a * span + b) or eqb x (b * span + a)) → Laid n (take (i + 1) (rails_of ends)) table'
  rail-laid table' la lb =
      laid_on n (rails_of ends) i a b table table' most la lb (omega (arith, rails-length ends)) (rails-at ends i h) l

pub lays-bad : (n : ℕ) (ends table : List ℕ) (i : ℕ) → first_bad (bad_rail n) 0 [] (rails_of ends) ≡ some i → Lays n ends table (Some i)
lays-bad n ends table i h = record { which = sym h; laid = λ e. never (cc) }

pub lays_all : (n : ℕ) (ends table : List ℕ) (i : ℕ) → length ends / 2 ≤ i → first_bad (bad_rail n) 0 [] (rails_of ends) ≡ none
    → Laid n (take i (rails_of ends)) table → Lays n ends table None
lays_all n ends table i h f l =
    let all : take i (rails_of ends) ≡ rails_of ends = take_all i (rails_of ends) (omega (arith, rails-length ends)) in
    record { which = sym f; laid = λ e. rw all at l }
