-- What is kept of a field or of a given text, byte by byte, decides the layout's tests of it: counts are kept up to one past
-- the limit, which is all that a test asks.
use Rattle.std.specs.Prelude.{if◌then◌else◌}
use mathlib.Core.Path.{◌≡◌, refl, sym, ◌∙◌, ap, ap₂}
use mathlib.Core.Bool.{Bool, true, false, not}
use mathlib.Core.List.{[], ◌∷◌, foldl}
use Prim.Native.Nat.{ℕ, suc, ◌+◌, ◌-◌, ◌*◌, ◌≤◌, ◌<◌, min}
use native.Mathlib.Omega.{arith}
use lib.Dec.{eqb, ltb, leb, leb-suc-suc, leb-suc-zero}
use lib.ListN.{length, get_or, take, drop, drop_of_length-le}
use lib.Seq.{drop-cons, get_or-take, length-take-le}
use borrow.Author.Tests.{eqb-true, eq-eqb, ne_eqb, leb-true, leb-false, ltb-true, ltb-false, le-leb, lt-ltb}
use Rattle.paper.specs.Basics.{◌and◌, ◌or◌, any}
use Rattle.paper.specs.Text.{Text, same, all, count, is_digit, is_point, value, value_from, sized, is_number}
use Rattle.paper.specs.Scenario.{is_length}
use Rattle.paper.specs.Bytes.{Match, unmatched, match_byte, matched, Field, blank, grow, tally, see, field_of, sized_field, number_field, length_field}
use Rattle.paper.proofs.Tests.{by_cases, and_left, and_right, not-both, and-true, or-false}

pub and_assoc : (a b c : Bool) → a and b and c ≡ a and (b and c)
unfolding ◌and◌
and_assoc true b c = refl
and_assoc false b c = refl

pub and-false : (a : Bool) → a and false ≡ false
unfolding ◌and◌
and-false true = refl
and-false false = refl

-- ## A given text
module _ (w : Text) (k : ℕ) (within : k ≤ length w) where
  past-it : (m : Match) (l : Text) → k < m.place → matched k (foldl (match_byte w) m l) ≡ false
  unfolding matched match_byte
  past-it m [] h = rw (ne_eqb m.place k (omega arith)) (and-false m.agrees)
  past-it m (b ∷ l) h =
      past-it (match_byte w m b) l (by_cases (leb m.place (length w)) (λ e. rw e (omega arith)) (λ e. rw e (omega arith)))

  more : (p : ℕ) → p < k → drop p (take k w) ≡ get_or w p 0 ∷ drop (suc p) (take k w)
  more p h =
      drop-cons (take k w) p 0 (rw (length-take-le k w within) h) ∙ ap (λ c. c ∷ drop (suc p) (take k w)) (get_or-take k w p 0 h)

  no_more : (p : ℕ) → k ≤ p → drop p (take k w) ≡ []
  no_more p h = drop_of_length-le (take k w) {i = p} (rw (length-take-le k w within) h)

  abbrev at : ℕ → Bool → Match
  at p ok = record { place = p; agrees = ok }

  one_on : (p : ℕ) (ok : Bool) (b : ℕ) → p ≤ k → match_byte w (at p ok) b ≡ at (suc p) (ok and eqb b (get_or w p 0))
  unfolding match_byte
  one_on p ok b h = rw (le-leb p (length w) (omega arith))

  matched-on : (p : ℕ) (ok : Bool) (l : Text) → p ≤ k → matched k (foldl (match_byte w) (at p ok) l) ≡ ok and same l (drop p (take k w))
  unfolding matched match_byte same
  matched-on p ok [] h =
      by_cases (ltb p k)
      (λ e. let i : p < k = ltb-true p k e in rw (more p i, ne_eqb p k (omega arith)))
      (λ e. let i : k ≤ p = ltb-false p k e in rw (no_more p i, eq-eqb p k (omega arith)))
  matched-on p ok (b ∷ l) h =
      by_cases (ltb p k)
      (λ e.
      let i : p < k = ltb-true p k e in
      rw (more p i)
      (ap (λ m. matched k (foldl (match_byte w) m l)) (one_on p ok b h) ∙ matched-on (suc p) (ok and eqb b (get_or w p 0)) l i ∙ and_assoc ok (eqb b (get_or w p 0)) (same l (drop (suc p) (take k w)))))
      (λ e.
      let i : k ≤ p = ltb-false p k e in
      rw (no_more p i)
      (ap (λ m. matched k (foldl (match_byte w) m l)) (one_on p ok b h) ∙ past-it (at (suc p) (ok and eqb b (get_or w p 0))) l (omega arith) ∙ sym (and-false ok)))

  -- byte by byte, the first k bytes of the text and no more
  pub match_is : (l : Text) → matched k (foldl (match_byte w) unmatched l) ≡ same l (take k w)
  unfolding ◌and◌
  match_is l = matched-on 0 true l (omega arith)

-- ## A field
place_of : (m : Field) (f : Text) → m.place ≤ 129 → (field_of m f).place ≡ min (m.place + length f) 129
unfolding field_of see grow
place_of m [] h = omega arith
place_of m (b ∷ f) h =
    by_cases (ltb m.place 129)
    (λ e. let l : m.place < 129 = ltb-true m.place 129 e in let q : grow m.place ≡ suc m.place = rw e in
    place_of (see m b) f (rw q (omega arith)) ∙ (rw q (omega arith)))
    (λ e. let l : 129 ≤ m.place = ltb-false m.place 129 e in let q : grow m.place ≡ m.place = rw e in
    place_of (see m b) f (rw q h) ∙ (rw q (omega arith)))

pub leb-same : (a b c d : ℕ) → (a ≤ b → c ≤ d) → (c ≤ d → a ≤ b) → leb a b ≡ leb c d
leb-same a b c d f g =
    by_cases (leb a b)
    (λ e. e ∙ sym (le-leb c d (f (leb-true a b e))))
    (λ e. by_cases (leb c d) (λ q. let z = g (leb-true c d q) in let y = leb-false a b e in absurd (omega arith)) (λ q. e ∙ sym q))

pub sized-mark : (k : ℕ) (f : Text) → k ≤ 128 → sized_field k (field_of blank f) ≡ sized k f
unfolding sized_field sized
sized-mark k f h =
    rw (place_of blank f (omega arith))
    (ap₂ ◌and◌ (leb-same 1 (min (0 + length f) 129) 1 (length f) (λ q. omega arith) (λ q. omega arith)) (leb-same (min (0 + length f) 129) k (length f) k (λ q. omega arith) (λ q. omega arith)))

digits_of : (m : Field) (f : Text) → (field_of m f).digits ≡ m.digits and all is_digit f
unfolding field_of see all
digits_of m [] = sym (and-true m.digits)
digits_of m (b ∷ f) = digits_of (see m b) f ∙ and_assoc m.digits (is_digit b) (all is_digit f)

pub number-mark : (f : Text) → number_field (field_of blank f) ≡ is_number 5 f
unfolding number_field is_number ◌and◌
number-mark f = ap₂ ◌and◌ (sized-mark 5 f (omega arith)) (digits_of blank f)

-- the number stays small enough to go on
abbrev Small : ℕ → Text → Type 0
Small n [] = Unit {0}
Small n (b ∷ f) = (n < 10000) × ((d : ℕ) → d ≤ 9 → Small (n * 10 + d) f)

small-five : (f : Text) → length f ≤ 5 → Small 0 f
small-five [] h = tt
small-five (a ∷ []) h = (omega arith, λ a' i. tt)
small-five (a ∷ b ∷ []) h = (omega arith, λ a' i. (omega arith, λ b' j. tt))
small-five (a ∷ b ∷ c ∷ []) h = (omega arith, λ a' i. (omega arith, λ b' j. (omega arith, λ c' k. tt)))
small-five (a ∷ b ∷ c ∷ d ∷ []) h = (omega arith, λ a' i. (omega arith, λ b' j. (omega arith, λ c' k. (omega arith, λ d' l. tt))))
small-five (a ∷ b ∷ c ∷ d ∷ e ∷ []) h = (omega arith, λ a' i. (omega arith, λ b' j. (omega arith, λ c' k. (omega arith, λ d' l. (omega arith, λ e' m. tt)))))
small-five (a ∷ b ∷ c ∷ d ∷ e ∷ g ∷ f) h = absurd (omega arith)

digit_low : (b : ℕ) → is_digit b ≡ true → b - 48 ≤ 9
unfolding is_digit
digit_low b e = let h = leb-true b 57 (and_right _ _ e) in omega arith

number_of : (m : Field) (f : Text) → all is_digit f ≡ true → Small m.number f → (field_of m f).number ≡ value_from m.number f
unfolding field_of see all value_from tally ◌and◌
number_of m [] h s = refl
number_of m (b ∷ f) h s =
    let d : is_digit b ≡ true = and_left (is_digit b) (all is_digit f) h in
    let q : tally m.number b ≡ m.number * 10 + (b - 48) = rw (d, lt-ltb m.number 10000 s.0) in
    number_of (see m b) f (and_right (is_digit b) (all is_digit f) h) (rw q (s.1 (b - 48) (digit_low b d))) ∙ ap (λ n. value_from n f) q

pub value-mark : (f : Text) → is_number 5 f ≡ true → (field_of blank f).number ≡ value f
unfolding is_number sized
value-mark f h =
    number_of blank f (and_right _ _ h) (small-five f (leb-true _ _ (and_right _ _ (and_left _ _ h))))

pub equal-mark : (f : Text) (w : ℕ) → (number_field (field_of blank f) and eqb (field_of blank f).number w) ≡ (is_number 5 f and eqb (value f) w)
unfolding ◌and◌
equal-mark f w =
    rw (number-mark f) (by_cases (is_number 5 f) (λ e. rw (e, value-mark f e)) (λ e. rw e))

-- ## The last field
abbrev room : Bool → ℕ
room true = 0
room false = 1

or-more : (a b c : Bool) → a or b or c ≡ a or (if b then true else c)
unfolding ◌or◌
or-more true b c = refl
or-more false true c = refl
or-more false false c = refl

figure-of : (m : Field) (f : Text) → (field_of m f).figure ≡ m.figure or any is_digit f
unfolding field_of see any
figure-of m [] = sym (or-false m.figure)
figure-of m (b ∷ f) = figure-of (see m b) f ∙ or-more m.figure (is_digit b) (any is_digit f)

point-no-digit : (b : ℕ) → is_point b ≡ true → is_digit b ≡ false
unfolding is_point is_digit ◌and◌
point-no-digit b e = rw (eqb-true b 46 e)

plain_more : (x d t q a : Bool) (c : ℕ) → (t ≡ true → d ≡ false)
    → x and (d or t and not q) and (a and leb c (room (q or t))) ≡ x and ((d or t) and a and leb (if t then suc c else c) (room q))
unfolding ◌and◌ ◌or◌
plain_more false d t q a c n = refl
plain_more true true true q a c n = not-both refl (n refl)
plain_more true true false true a c n = refl
plain_more true true false false a c n = refl
plain_more true false true true a c n = rw (leb-suc-zero c) (sym (and-false a))
plain_more true false true false a c n = rw (leb-suc-suc c 0)
plain_more true false false q a c n = refl

plain_of : (m : Field) (f : Text) → (field_of m f).plain ≡ m.plain and (all (λ b. is_digit b or is_point b) f and leb (count is_point f) (room m.point))
unfolding field_of see all count ◌and◌
plain_of m [] = sym (ap (λ q. m.plain and (true and q)) (le-leb 0 (room m.point) (omega arith)) ∙ and-true m.plain)
plain_of m (b ∷ f) = plain_of (see m b) f ∙ plain_more m.plain (is_digit b) (is_point b) m.point _ (count is_point f) (point-no-digit b)

and-four : (s a l d : Bool) → s and (a and l and d) ≡ s and a and l and d
unfolding ◌and◌
and-four true a l d = refl
and-four false a l d = refl

pub length-mark : (f : Text) → length_field (field_of blank f) ≡ is_length f
unfolding length_field is_length ◌and◌ ◌or◌
length-mark f =
    rw (sized-mark 20 f (omega arith), plain_of blank f, figure-of blank f)
    (and-four (sized 20 f) (all (λ b. is_digit b or is_point b) f) (leb (count is_point f) 1) (any is_digit f))
