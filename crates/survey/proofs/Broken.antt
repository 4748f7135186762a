-- 16 in words: line n is the bad one exactly if the lines before it keep the layout and line n breaks it, or is missing. For any
-- layout, and then for the survey.
use mathlib.Core.Path.{◌≡◌, refl, ◌∙◌, ap}
use mathlib.Core.List.{List, [], ◌∷◌}
use mathlib.Core.Logic.{◌↔◌}
use mathlib.Core.Option.{Option, none, some}
use Prim.Native.Nat.{ℕ, zero, suc, ◌+◌, ◌≤◌, ◌<◌}
use native.Mathlib.Omega.{arith}
use lib.ListN.{length, get_or, take}
use Rattle.paper.specs.Basics.{◌>>=◌}
use Rattle.paper.specs.Text.{Text, lines, bad_line, read_lines}
use Rattle.paper.proofs.Tests.{by-option, never-some, some_same, bad-same, not_good}
use Rattle.survey.specs.Survey.{head_due, survey_line, survey_end, read_survey}

module _ {A R : Type 0} (line : A → Text → Option A) (end : A → Option R) where
  -- what the lines make of what was read before them, none where one of them breaks the layout
  abbrev pub keeps : A → List Text → Option A
  keeps a [] = some a
  keeps a (l ∷ ls) = line a l >>= λ b. keeps b ls

  -- with d lines before it
  pub record BadAfter (a : A) (ls : List Text) (d : ℕ) : Type 0 where
    pub so_far : A
    pub before : keeps a (take d ls) ≡ some so_far
    pub within : d ≤ length ls
    pub breaks : d < length ls → line so_far (get_or ls d []) ≡ none
    pub misses : d ≡ length ls → end so_far ≡ none

  found : (n : ℕ) (a : A) (ls : List Text) (k : ℕ) → read_lines line end n a ls ≡ bad_line k → (d : ℕ) × (k ≡ n + d) × BadAfter a ls d
  unfolding read_lines
  found n a [] k h =
      by-option (end a)
      (λ e. (0, (let z = bad-same (rw e at h) in omega arith), record { so_far = a; before = refl; within = omega arith; breaks = λ l. absurd (omega arith); misses = λ q. e }))
      (λ r e. not_good (rw e at h))
  found n a (l ∷ ls) k h =
      by-option (line a l)
      (λ e. (0, (let z = bad-same (rw e at h) in omega arith), record { so_far = a; before = refl; within = omega arith; breaks = λ q. e; misses = λ q. absurd (omega arith) }))
      (λ b e.
      let r = found (suc n) b ls k (rw e at h) in
      let f = r.2 in (
        suc r.0,
        omega (arith, r.1),
        record { so_far = f.so_far; before = rw e f.before; within = omega (arith, f.within); breaks = λ q. f.breaks (omega arith); misses = λ q. f.misses (omega arith) },
      ))

  told : (n : ℕ) (a : A) (ls : List Text) (d : ℕ) → BadAfter a ls d → read_lines line end n a ls ≡ bad_line (n + d)
  unfolding read_lines
  told n a [] zero f = let q = some_same f.before in rw (q, f.misses refl) (ap bad_line (omega arith))
  told n a [] (suc d) f = absurd (omega (arith, f.within))
  told n a (l ∷ ls) zero f = let q = some_same f.before in rw (q, f.breaks (omega arith)) (ap bad_line (omega arith))
  told n a (l ∷ ls) (suc d) f =
      by-option (line a l)
      (λ e. never-some f.so_far (rw e at f.before))
      (λ b e.
      rw e
      (told (suc n) b ls d (record { so_far = f.so_far; before = rw e at f.before; within = omega (arith, f.within); breaks = λ q. f.breaks (omega arith); misses = λ q. f.misses (omega arith) })
      ∙ ap bad_line (omega arith)))

-- d lines keep the layout, and the next one breaks it or is missing
abbrev pub BreaksAfter : Text → ℕ → Type 0
BreaksAfter bs d = BadAfter survey_line survey_end head_due (lines bs) d

-- 16 is given exactly if the layout is broken, with the first bad line, from 1.
pub broken-exactly : (bs : Text) (d : ℕ) → (read_survey bs ≡ bad_line (suc d)) ↔ BreaksAfter bs d
unfolding read_survey
broken-exactly bs d = (
  λ h. let r = found survey_line survey_end 1 head_due (lines bs) (suc d) h in let e : r.0 ≡ d = omega (arith, r.1) in rw e at r.2,
  λ f. told survey_line survey_end 1 head_due (lines bs) d f ∙ ap bad_line (omega arith),
)

-- a bad line has a number from 1
pub broken-from-one : (bs : Text) (n : ℕ) → read_survey bs ≡ bad_line n → 1 ≤ n
unfolding read_survey
broken-from-one bs n h = let r = found survey_line survey_end 1 head_due (lines bs) n h in omega (arith, r.1)
