-- Digits read one by one, up to the most: a number that passes it never comes back below, so reading may stop there.
use Rattle.std.proofs.Common.{None, Some}
use Rattle.std.specs.Prelude.{if◌then◌else◌}
use mathlib.Core.Path.{◌≡◌, refl, sym, ◌∙◌, ap}
use mathlib.Core.Bool.{Bool, true, false}
use mathlib.Core.List.{[], ◌∷◌}
use mathlib.Core.Option.{Option, none, some}
use Prim.Native.Nat.{ℕ, suc, ◌+◌, ◌-◌, ◌*◌, ◌≤◌, ◌<◌}
use native.Mathlib.Omega.{arith}
use native.Mathlib.Numerals.{add-one}
use lib.Dec.{leb}
use lib.ListN.{length, get_or, take, drop, length-drop, drop_of_length-le}
use lib.Seq.{drop-cons, take_all}
use borrow.Author.Tests.{eq-eqb, ne_eqb, leb-true, leb-false, le-leb, lt-leb}
use Rattle.paper.specs.Basics.{◌and◌}
use Rattle.paper.specs.Text.{Text, all, is_digit, value, value_from}
use Rattle.paper.specs.Print.{number_after}
use Rattle.paper.proofs.Tests.{by_cases}
use Rattle.paper.proofs.Fields.{and-false}
use Rattle.line_entries.specs.Entries.{numeral, report_entry, most_carrier}
use Rattle.line_entries.specs.Steps.{figure, digit_on, capped}
use Rattle.line_entries.specs.declared.Entry.TheVariants.{Number, Broken}
use Rattle.line_entries.specs.Figure.{Figure}

-- the end of a list, as the code hands it on
abbrev pub rest : Text → ℕ → Text
rest l i = take (length l - i) (drop i l)

pub rest-is : (l : Text) (i : ℕ) → rest l i ≡ drop i l
rest-is l i = take_all (length l - i) (drop i l) (rw (length-drop i l) (omega arith))

-- what is left to be read, after n was read
abbrev pub read_from : ℕ → ℕ → Text → Figure
read_from most n l = figure (all is_digit l and leb (value_from n l) most) (value_from n l)

never : {P : Type 0} (m : ℕ) → None ≡ Some m → P
never m e = let z : ◌≡◌ {A = ℕ} 0 1 = cc in absurd (omega arith)

pub value_grows : (n : ℕ) (l : Text) → n ≤ value_from n l
unfolding value_from
value_grows n [] = omega arith
value_grows n (b ∷ l) = let h = value_grows (n * 10 + (b - 48)) l in omega arith

pub is-low : (b : ℕ) → b < 48 → is_digit b ≡ false
unfolding is_digit ◌and◌
is-low b h = rw (lt-leb 48 b h)

pub is-high : (b : ℕ) → 57 < b → is_digit b ≡ false
unfolding is_digit
is-high b h = rw (lt-leb b 57 h, and-false (leb 48 b))

pub is-digit : (b : ℕ) → 48 ≤ b → b ≤ 57 → is_digit b ≡ true
unfolding is_digit ◌and◌
is-digit b h k = rw (le-leb 48 b h, le-leb b 57 k)

module _ (most n b : ℕ) where
  abbrev next : ℕ
  next = n * 10 + (b - 48)

  pub digit-yes : is_digit b ≡ true → next ≤ most → Some next ≡ digit_on most n b
  unfolding digit_on ◌and◌
  digit-yes d h = rw (d, le-leb next most h)

  pub digit-over : most < next → None ≡ digit_on most n b
  unfolding digit_on
  digit-over h = rw (lt-leb next most h, and-false (is_digit b))

  pub digit-no : is_digit b ≡ false → None ≡ digit_on most n b
  unfolding digit_on ◌and◌
  digit-no d = rw d

  -- one digit was read
  pub from_on : (m : ℕ) (l : Text) → Some m ≡ digit_on most n b → (m ≤ most) × (read_from most m l ≡ read_from most n (b ∷ l))
  unfolding digit_on all value_from ◌and◌
  from_on m l e =
      by_cases (is_digit b)
      (λ d. by_cases (leb next most)
      (λ h.
      let s : Some m ≡ Some next = rw (d, h) at e in
      let q : m ≡ next = cc in
      let i : next ≤ most = leb-true next most h in
      (omega arith, rw (d, q)))
      (λ h. let s : Some m ≡ None = rw (d, h) at e in never m (sym s)))
      (λ d. let s : Some m ≡ None = rw d at e in never m (sym s))

  pub from-stop : (l : Text) → None ≡ digit_on most n b → None ≡ read_from most n (b ∷ l)
  unfolding digit_on all value_from ◌and◌
  from-stop l e =
      by_cases (is_digit b)
      (λ d. by_cases (leb next most)
      (λ h. let s : None ≡ Some next = rw (d, h) at e in never next s)
      (λ h.
      let i : most < next = leb-false next most h in
      let j = value_grows next l in
      rw (lt-leb (value_from next l) most (omega arith), and-false (is_digit b and all is_digit l))))
      (λ d. rw d)

pub from_end : (most n : ℕ) → n ≤ most → Some n ≡ read_from most n []
unfolding all value_from ◌and◌
from_end most n h = rw (le-leb n most h)

-- ## The code's loop
module _ (digits : Text) (most : ℕ) where
  abbrev pub whole : Figure
  whole = figure (numeral digits and leb (value digits) most) (value digits)

  pub none-there : length digits ≡ 0 → None ≡ whole
  unfolding numeral ◌and◌
  none-there h = rw (lt-leb 1 (length digits) (omega arith))

  pub first-there : (length digits ≡ 0 → ⊥) → read_from most 0 digits ≡ whole
  unfolding numeral ◌and◌
  first-there h = rw (le-leb 1 (length digits) (by_length digits h))
    where
      by_length : (l : Text) → (length l ≡ 0 → ⊥) → 1 ≤ length l
      by_length [] n = absurd (n refl)
      by_length (b ∷ l) n = omega arith

  module _ (n i : ℕ) (more : i < length digits) (so_far : read_from most n (drop i digits) ≡ whole) where
    pub one_on : (m : ℕ) → Some m ≡ digit_on most n (get_or digits i 0) → (m ≤ most) × (read_from most m (drop (i + 1) digits) ≡ whole)
    one_on m e =
        let s = from_on most n (get_or digits i 0) m (drop (suc i) digits) e in
        (s.0, rw (add-one i) (s.1 ∙ ap (read_from most n) (sym (drop-cons digits i 0 more)) ∙ so_far))

    pub one-stops : None ≡ digit_on most n (get_or digits i 0) → None ≡ whole
    one-stops e =
        from-stop most n (get_or digits i 0) (drop (suc i) digits) e ∙ ap (read_from most n) (sym (drop-cons digits i 0 more)) ∙ so_far

  pub all_read : (n i : ℕ) → length digits ≤ i → n ≤ most → read_from most n (drop i digits) ≡ whole → Some n ≡ whole
  all_read n i h k so_far = from_end most n k ∙ ap (read_from most n) (sym (drop_of_length-le digits {i = i} h)) ∙ so_far

-- ## After a letter
pub after_none : (most c : ℕ) (w : Text) → length w ≡ 0 → None ≡ capped most (number_after c w)
unfolding number_after
after_none most c [] h = refl
after_none most c (b ∷ d) h = absurd (omega arith)

pub after-other : (most c : ℕ) (w : Text) → (get_or w 0 0 ≡ c → ⊥) → None ≡ capped most (number_after c w)
unfolding number_after ◌and◌
after-other most c [] n = refl
after-other most c (b ∷ d) n = rw (ne_eqb b c n)

digits-as : (most : ℕ) (q : Bool) (v : ℕ) → figure (q and leb v most) v ≡ capped most (if q then some v else none)
unfolding ◌and◌
digits-as most true v = refl
digits-as most false v = refl

after_is : (most c b : ℕ) (d : Text) → b ≡ c → whole d most ≡ capped most (number_after c (b ∷ d))
unfolding number_after numeral ◌and◌
after_is most c b d e = rw (eq-eqb b c e) (digits-as most (leb 1 (length d) and all is_digit d) (value d))

pub after-letter : (most c : ℕ) (w : Text) → (length w ≡ 0 → ⊥) → get_or w 0 0 ≡ c → whole (rest w 1) most ≡ capped most (number_after c w)
after-letter most c [] n e = absurd (n refl)
after-letter most c (b ∷ d) n e = ap (λ l. whole l most) (rest-is (b ∷ d) 1) ∙ after_is most c b d e

-- a number that was read is not over the most
pub capped-low : (most n : ℕ) (o : Option ℕ) → Some n ≡ capped most o → n ≤ most
capped-low most n none e = never n (sym e)
capped-low most n (some v) e =
    by_cases (leb v most)
    (λ h. let s : Some n ≡ Some v = rw h at e in let q : n ≡ v = cc in let i : v ≤ most = leb-true v most h in omega arith)
    (λ h. let s : Some n ≡ None = rw h at e in never n (sym s))

-- ## A reported name
pub name-yes : (l : Text) (n : ℕ) → Some n ≡ whole l most_carrier → Number n ≡ report_entry l
unfolding report_entry
name-yes l n e =
    by_cases (numeral l and leb (value l) most_carrier)
    (λ h. let s : Some n ≡ Some (value l) = rw h at e in let q : n ≡ value l = cc in rw h (ap Number q))
    (λ h. let s : Some n ≡ None = rw h at e in never n (sym s))

pub name-no : (l : Text) → None ≡ whole l most_carrier → Broken ≡ report_entry l
unfolding report_entry
name-no l e =
    by_cases (numeral l and leb (value l) most_carrier)
    (λ h. let s : None ≡ Some (value l) = rw h at e in never (value l) s)
    (λ h. rw h)
