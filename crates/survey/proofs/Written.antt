-- What is written reads back: a yard that passes 1 to 3 is what its file reads as, rails in the order held. So a file that was
-- written is canonical, and writing what was read and reading that again gives the same yard.
use mathlib.Core.Path.{◌≡◌, sym, ◌∙◌, ap}
use mathlib.Core.Bool.{true, false}
use mathlib.Core.List.{List, [], ◌∷◌, ◌++◌, map, append-nil, append_assoc}
use mathlib.Core.Option.{none, some}
use Prim.Native.Nat.{ℕ, suc, ◌+◌, ◌-◌, ◌*◌, ◌/◌, ◌%◌, ◌≤◌, ◌<◌}
use native.Mathlib.Omega.{arith}
use lib.Dec.{eqb}
use lib.ListN.{length, length-append}
use borrow.Author.Tests.{eq-eqb, lt-ltb, le-leb, leb-false, eqb-true, eqb-false}
use Rattle.paper.specs.Basics.{◌and◌, first_bad}
use Rattle.paper.specs.Limits.{most_bays, most_rails}
use Rattle.paper.specs.Yard.{Bay, Rail}
use Rattle.paper.specs.Order.{order}
use Rattle.paper.specs.Docket.{rails_of, bad_rail, size, rail, no_1, no_2, no_3}
use Rattle.paper.specs.Text.{Text, SPACE, lines, split, same, all, good, read_lines}
use Rattle.paper.specs.Print.{decimal}
use Rattle.paper.proofs.Tests.{by_cases, none_both, none_from, none-when, never-some, or-none, good-same}
use Rattle.laws.proofs.Digits.{decimal-value}
use Rattle.laws.proofs.Lines.{plain, AllPlain, lines-ended, number-plain, all_cat}
use Rattle.paper.proofs.Admitted.{sizes-of}
use Rattle.survey.specs.Survey.{head_due, rails_due, is_comment, two_numbers, numbers_after, taken, survey_line, survey_end, read_survey, head_line, rail_line, survey_of, first_three}
use Rattle.survey.proofs.Words.{decimal-number, two_fields}

-- ## A line
-- the two numbers that were written behind a word
module _ (a b : ℕ) (small : (a < 100000) × (b < 100000)) where
  numbers-back : two_numbers (split SPACE (decimal a ++ (SPACE ∷ decimal b))) ≡ some (a, b)
  unfolding two_numbers ◌and◌
  numbers-back = rw (two_fields a b, decimal-number a small.0, decimal-number b small.1, decimal-value a, decimal-value b)

  head-is : head_line a b ≡ 112 ∷ 32 ∷ 101 ∷ 100 ∷ 103 ∷ 101 ∷ 32 ∷ (decimal a ++ (SPACE ∷ decimal b))
  unfolding head_line
  head-is = simp append_assoc

  head-back : survey_line head_due (head_line a b) ≡ some (rails_due a b [])
  unfolding survey_line is_comment numbers_after same ◌and◌ taken
  head-back = rw (head-is, numbers-back)

module _ (a b : ℕ) where
  rail-is : rail_line (a, b) ≡ 101 ∷ 32 ∷ (decimal (suc a) ++ (SPACE ∷ decimal (suc b)))
  unfolding rail_line
  rail-is = simp append_assoc

  rail-back : (n m : ℕ) (done : List Bay) → suc a < 100000 → suc b < 100000 → length done < 2 * m → survey_line (rails_due n m done) (rail_line (a, b)) ≡ some (rails_due n m (done ++ (a ∷ b ∷ [])))
  unfolding survey_line is_comment numbers_after same ◌and◌ taken
  rail-back n m done i j h =
      let less-a : suc a - 1 ≡ a = omega arith in
      let less-b : suc b - 1 ≡ b = omega arith in
      rw (rail-is, numbers-back (suc a) (suc b) (i, j), lt-ltb (length done) (2 * m) h, le-leb 1 (suc a) (omega arith), le-leb 1 (suc b) (omega arith), less-a, less-b)

-- ## The rails
-- every end is below n
abbrev pub Below : ℕ → List Bay → Type 0
Below n [] = Unit {0}
Below n (a ∷ []) = Unit {0}
Below n (a ∷ b ∷ rest) = (a < n) × ((b < n) × Below n rest)

below_of : (n i : ℕ) (before : List Rail) (ends : List Bay) → first_bad (bad_rail n) i before (rails_of ends) ≡ none → Below n ends
unfolding first_bad rails_of bad_rail
below_of n i before [] h = tt
below_of n i before (a ∷ []) h = tt
below_of n i before (a ∷ b ∷ rest) h =
    by_cases (bad_rail n before (a, b))
    (λ e. never-some i (sym (rw e at h)))
    (λ e.
    let q = or-none _ _ (or-none _ _ (or-none _ _ e).0).0 in
    let l : a < n = leb-false n a q.0 in
    let m : b < n = leb-false n b q.1 in
    (l, (m, below_of n (suc i) (before ++ ((a, b) ∷ [])) rest (rw e at h))))

rails-back : (n m k : ℕ) (done ends : List Bay) → n < 99999 → Below n ends → length ends % 2 ≡ 0 → length done + length ends ≡ 2 * m
    → read_lines survey_line survey_end k (rails_due n m done) (map rail_line (rails_of ends)) ≡ good (n, done ++ ends)
unfolding read_lines rails_of survey_end
rails-back n m k done [] small below even all =
    rw (eq-eqb (length done) (2 * m) (omega arith), append-nil)
rails-back n m k done (a ∷ []) small below even all = absurd (omega arith)
rails-back n m k done (a ∷ b ∷ rest) small below even all =
    rw (rail-back a b n m done (omega (arith, below.0)) (omega (arith, below.1.0)) (omega arith))
    (rails-back n m (suc k) (done ++ (a ∷ b ∷ [])) rest small below.1.1 (omega arith) (simp length-append (omega arith))
    ∙ ap (λ l. good (n, l)) (append_assoc done (a ∷ b ∷ []) rest))

-- ## The file
head_plain : (a b : ℕ) → all plain (head_line a b) ≡ true
unfolding head_line all plain ◌and◌
head_plain a b = simp (all_cat, number-plain)

rail-plain : (r : Rail) → all plain (rail_line r) ≡ true
unfolding rail_line all plain ◌and◌
rail-plain r = simp (all_cat, number-plain)

rails-plain : (rs : List Rail) → AllPlain (map rail_line rs)
rails-plain [] = tt
rails-plain (r ∷ rs) = (rail-plain r, rails-plain rs)

-- the lines of a written file: N and M, then the rails in the order held
pub written-lines : (n : ℕ) (ends : List Bay) → lines (survey_of n ends) ≡ head_line n (length ends / 2) ∷ map rail_line (rails_of ends)
unfolding survey_of
written-lines n ends = lines-ended _ (head_plain n (length ends / 2), rails-plain (rails_of ends))

-- what a yard that passes 1 to 3 is
pub record Passes (n : ℕ) (ends : List Bay) : Type 0 where
  pub few_bays : n ≤ most_bays
  pub few-ends : length ends ≤ 2 * most_rails
  pub even : length ends % 2 ≡ 0
  pub below : Below n ends

pub passes : (n : ℕ) (ends : List Bay) → first_three n ends ≡ none → Passes n ends
unfolding first_three
passes n ends h =
    let o = order n ends [] [] in
    let p = none_both (no_1 o 0) _ h in
    let q = none_both (no_2 o) (no_3 o) p.1 in
    let s = sizes-of o 0 (none-when _ size p.0) in
    let two : length ends % 2 ≡ 0 = even-of (length ends) s.even-ends in
    record { few_bays = s.few_bays; few-ends = omega (arith, s.few-rails); even = two; below = below_of n 0 [] ends (none_from rail _ q.0) }
  where
    one_of : (k : ℕ) → eqb (k % 2) 1 ≡ false → eqb (k % 2) 0 ≡ false → ⊥
    one_of k e f = omega (arith, eqb-false (k % 2) 1 e, eqb-false (k % 2) 0 f)

    even-of : (k : ℕ) → eqb (k % 2) 1 ≡ false → k % 2 ≡ 0
    even-of k e = by_cases (eqb (k % 2) 0) (λ f. eqb-true (k % 2) 0 f) (λ f. absurd (one_of k e f))

-- Reading what was written gives the same yard, rails in the order held.
pub read-written : (n : ℕ) (ends : List Bay) → first_three n ends ≡ none → read_survey (survey_of n ends) ≡ good (n, ends)
unfolding read_survey read_lines
read-written n ends h =
    let p = passes n ends h in
    rw (written-lines n ends, head-back n (length ends / 2) (omega (arith, p.few_bays), omega (arith, p.few-ends)))
    (rails-back n (length ends / 2) 2 [] ends (omega (arith, p.few_bays)) p.below p.even (omega (arith, p.even)))

-- A file is canonical where it is the file of what it reads as.
abbrev pub Canonical : Text → Type 0
Canonical bs = (n : ℕ) (ends : List Bay) → read_survey bs ≡ good (n, ends) → bs ≡ survey_of n ends

-- What is written is canonical.
pub written-canonical : (n : ℕ) (ends : List Bay) → first_three n ends ≡ none → Canonical (survey_of n ends)
written-canonical n ends h m other r =
    ap (λ (y : ℕ × List Bay). survey_of y.0 y.1) (good-same (sym (read-written n ends h) ∙ r))

-- Writing what was read and reading that again gives the same.
pub read_again : (bs : Text) (n : ℕ) (ends : List Bay) → read_survey bs ≡ good (n, ends) → first_three n ends ≡ none → read_survey (survey_of n ends) ≡ read_survey bs
read_again bs n ends r h = read-written n ends h ∙ sym r
