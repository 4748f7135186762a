-- The survey read byte by byte is the survey read line by line: behind the word stand two fields, and each byte of a field decides
-- whether it can still be a number of one to five digits.
use Rattle.std.specs.Prelude.{if◌then◌else◌}
use mathlib.Core.Path.{◌≡◌, refl, sym, ◌∙◌}
use mathlib.Core.Bool.{Bool, true, false}
use mathlib.Core.List.{List, [], ◌∷◌, foldl}
use mathlib.Core.Option.{Option, none, some}
use Prim.Native.Nat.{ℕ, suc, ◌+◌, ◌≤◌, ◌<◌}
use native.Mathlib.Omega.{arith}
use lib.Dec.{eqb, ltb, leb}
use lib.ListN.{length, take, drop}
use borrow.Author.Tests.{ne_eqb, leb-true, ltb-true, ltb-false, le-leb, lt-leb}
use Rattle.paper.specs.Basics.{◌and◌, ◌>>=◌}
use Rattle.paper.specs.Text.{Text, SPACE, join, split, same, all, is_digit, value, sized, is_number}
use Rattle.paper.specs.Bytes.{Field, blank, see, field_of, tally}
use Rattle.paper.proofs.Tests.{by_cases, and_left}
use Rattle.paper.proofs.Fed.{ByByte, fed}
use Rattle.paper.proofs.Fields.{value-mark, and-false, leb-same}
use Rattle.paper.proofs.Stepping.{split-some}
use Rattle.survey.specs.Survey.{Surveyed, head_due, rails_due, word_of, is_comment, two_numbers, numbers_after, taken, survey_line, survey_end, read_survey}
use Rattle.survey.specs.Bytes.{LineUnderWay, fresh, comment, broken, in_first, in_second, await, word_byte, digit_byte, line_byte, line_worth, begin_line, in_line, close_line, end_line, unread, survey_step, survey_finish}

-- ## Numbers
-- k digits were read, and the text goes on with a number of at most five
abbrev number_on : ℕ → Text → Bool
number_on k [] = leb 1 k
number_on k (b ∷ f) = is_digit b and ltb k 5 and number_on (suc k) f

abbrev tally_on : ℕ → Text → ℕ
tally_on n [] = n
tally_on n (b ∷ f) = tally_on (tally n b) f

number-on : (k : ℕ) (f : Text) → k ≤ 5 → number_on k f ≡ leb 1 (k + length f) and leb (k + length f) 5 and all is_digit f
unfolding all ◌and◌
number-on k [] h = rw (le-leb (k + 0) 5 (omega arith)) (leb-same 1 k 1 (k + 0) (λ q. omega arith) (λ q. omega arith) ∙ sym (more (leb 1 (k + 0))))
  where
    more : (q : Bool) → q and true and true ≡ q
    more true = refl
    more false = refl
number-on k (b ∷ f) h =
    by_cases (is_digit b)
    (λ d. by_cases (ltb k 5)
    (λ e.
    let l : k < 5 = ltb-true k 5 e in
    let same_length : suc k + length f ≡ k + suc (length f) = omega arith in
    rw (d, e) (number-on (suc k) f (omega arith) ∙ rw same_length))
    (λ e.
    let l : 5 ≤ k = ltb-false k 5 e in
    rw (d, e, lt-leb (k + suc (length f)) 5 (omega arith), and-false (leb 1 (k + suc (length f))))))
    (λ d. rw (d, and-false (leb 1 (k + suc (length f)) and leb (k + suc (length f)) 5)))

number_is : (f : Text) → number_on 0 f ≡ is_number 5 f
unfolding is_number sized
number_is f = number-on 0 f (omega arith) ∙ rw (none_before (length f))
  where
    none_before : (n : ℕ) → 0 + n ≡ n
    none_before n = omega arith

field-number : (m : Field) (f : Text) → (field_of m f).number ≡ tally_on m.number f
unfolding field_of see
field-number m [] = refl
field-number m (b ∷ f) = field-number (see m b) f

value-is : (f : Text) → is_number 5 f ≡ true → tally_on 0 f ≡ value f
value-is f h = sym (field-number blank f) ∙ value-mark f h

-- ## The fields behind the word
module _ (a : Surveyed) (w : Text) where
  abbrev second : ℕ → ℕ → ℕ → List Text → Option Surveyed
  second p k n [] = none
  second p k n (f ∷ []) = if number_on k f then taken a (p, tally_on n f) else none
  second p k n (f ∷ g ∷ fs) = none

  abbrev first : ℕ → ℕ → List Text → Option Surveyed
  first k n [] = none
  first k n (f ∷ fs) = if number_on k f then second (tally_on n f) 0 0 fs else none

  abbrev end : LineUnderWay → Text → Option Surveyed
  end s l = line_worth a (foldl (line_byte w) s l)

  broken-on : (l : Text) → end broken l ≡ none
  unfolding line_byte line_worth
  broken-on [] = refl
  broken-on (b ∷ l) = broken-on l

  comment-on : (l : Text) → end comment l ≡ some a
  unfolding line_byte line_worth
  comment-on [] = refl
  comment-on (b ∷ l) = comment-on l

  digit-no-space : (b : ℕ) → is_digit b ≡ true → eqb b SPACE ≡ false
  unfolding is_digit
  digit-no-space b d = let h = leb-true 48 b (and_left _ _ d) in ne_eqb b SPACE (omega arith)

  in-second : (p k n : ℕ) (l : Text) → end (in_second p k n) l ≡ second p k n (split SPACE l)
  unfolding line_byte line_worth digit_byte split join ◌and◌
  in-second p k n [] = refl
  in-second p k n (b ∷ l) =
      let t = split-some SPACE l in
      by_cases (is_digit b)
      (λ d. by_cases (ltb k 5)
      (λ e. rw (d, e, digit-no-space b d) (in-second p (suc k) (tally n b) l ∙ rw t.2 (onto t.0 t.1 d e)))
      (λ e. rw (d, e, digit-no-space b d) (broken-on l ∙ rw t.2 (off t.0 t.1 (rw (d, e))))))
      (λ d. rw d (broken-on l ∙ by_cases (eqb b SPACE) (λ s. rw (s, t.2)) (λ s. rw (s, t.2) (off t.0 t.1 (rw d)))))
    where
      onto : (f : Text) (fs : List Text) → is_digit b ≡ true → ltb k 5 ≡ true → second p (suc k) (tally n b) (f ∷ fs) ≡ second p k n ((b ∷ f) ∷ fs)
      onto f [] d e = rw (d, e)
      onto f (g ∷ fs) d e = refl

      off : (f : Text) (fs : List Text) → number_on k (b ∷ f) ≡ false → none ≡ second p k n ((b ∷ f) ∷ fs)
      off f [] q = rw q
      off f (g ∷ fs) q = refl

  in-first : (k n : ℕ) (l : Text) → end (in_first k n) l ≡ first k n (split SPACE l)
  unfolding line_byte line_worth digit_byte split join ◌and◌
  in-first k n [] = by_cases (leb 1 k) (λ e. rw e) (λ e. rw e)
  in-first k n (b ∷ l) =
      let t = split-some SPACE l in
      by_cases (eqb b SPACE)
      (λ s. by_cases (leb 1 k) (λ e. rw (s, e) (in-second n 0 0 l)) (λ e. rw (s, e) (broken-on l)))
      (λ s. by_cases (is_digit b)
      (λ d. by_cases (ltb k 5)
      (λ e. rw (s, d, e) (in-first (suc k) (tally n b) l ∙ rw (t.2, d, e)))
      (λ e. rw (s, d, e) (broken-on l ∙ rw (t.2, d, e))))
      (λ d. rw (s, d) (broken-on l ∙ rw (t.2, d))))

  -- behind what is left of the word
  in-word : (r l : Text) → end (await r) l ≡ (if same (take (length r) l) r then first 0 0 (split SPACE (drop (length r) l)) else none)
  unfolding await line_byte line_worth word_byte same ◌and◌
  in-word [] l = in-first 0 0 l
  in-word (x ∷ r) [] = refl
  in-word (x ∷ r) (b ∷ l) = by_cases (eqb b x) (λ e. rw e (in-word r l)) (λ e. rw e (broken-on l))

  two_fields : (fs : List Text) → first 0 0 fs ≡ two_numbers fs >>= taken a
  unfolding two_numbers ◌and◌
  two_fields [] = refl
  two_fields (f ∷ []) = by_cases (number_on 0 f) (λ e. rw e) (λ e. rw e)
  two_fields (f ∷ g ∷ []) =
      rw (number_is f, number_is g)
      (by_cases (is_number 5 f)
      (λ e. by_cases (is_number 5 g) (λ d. rw (e, d, value-is f e, value-is g d)) (λ d. rw (e, d)))
      (λ e. rw e))
  two_fields (f ∷ g ∷ h ∷ fs) =
      rw (ne_eqb (length (f ∷ g ∷ h ∷ fs)) 2 (omega arith)) (by_cases (number_on 0 f) (λ e. rw e) (λ e. rw e))

  pub after-word : (l : Text) → end (await w) l ≡ numbers_after w l >>= taken a
  unfolding numbers_after
  after-word l =
      in-word w l
      ∙ by_cases (same (take (length w) l) w) (λ e. rw e (two_fields (split SPACE (drop (length w) l)))) (λ e. rw e)

-- ## The law
closed-line : (a : Surveyed) (l : Text) → line_worth a (foldl (line_byte (word_of a)) fresh l) ≡ survey_line a l
unfolding survey_line is_comment line_byte line_worth numbers_after same await
closed-line head_due [] = refl
closed-line (rails_due n m ends) [] = refl
closed-line a (b ∷ l) = by_cases (eqb b 99) (λ e. rw e (comment-on a (word_of a) l)) (λ e. rw e (starts a ∙ after-word a (word_of a) (b ∷ l)))
  where
    starts : (a : Surveyed) → line_worth a (foldl (line_byte (word_of a)) (word_byte (word_of a) b) l) ≡ line_worth a (foldl (line_byte (word_of a)) (await (word_of a)) (b ∷ l))
    starts head_due = refl
    starts (rails_due n m ends) = refl

in-line : (a : Surveyed) (s : LineUnderWay) (l : Text) → close_line (foldl in_line (record { due = a; line = s }) l) ≡ line_worth a (foldl (line_byte (word_of a)) s l)
unfolding close_line in_line
in-line a s [] = refl
in-line a s (b ∷ l) = in-line a (line_byte (word_of a) s b) l

by_byte : ByByte survey_line survey_end begin_line in_line close_line end_line
unfolding begin_line end_line
by_byte = record { closed = λ a l. in-line a fresh l ∙ closed-line a l; rests = λ a. refl }

-- Folding the step over the file and finishing gives the layout's answer, for every file.
pub stepped : (bs : Text) → survey_finish (foldl survey_step unread bs) ≡ read_survey bs
unfolding survey_finish survey_step read_survey begin_line
stepped bs = fed _ _ _ _ _ _ by_byte 1 head_due bs
