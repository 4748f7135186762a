-- A text read byte by byte: what is read from a place on is what is read from the next, with its digit told. A number only grows with
-- more digits, so one that fits fits all the way.
use Rattle.std.proofs.Common.{◌≡◌, ℕ, ◌+◌, ◌-◌, ◌*◌, ◌%◌, ◌^◌, ◌<◌, ◌≤◌, Bool, true, false, cond, ◌&&◌, leb, List, [], ◌∷◌, length, get_or, drop, sym, refl, ap, ◌∙◌, add-one, arith, length-drop, drop_of_length-le, drop-cons, leb-true}
use Rattle.cases.specs.Numerals.{is_digit, from_digit, past_digits, decimal, Reads}

-- ---- one byte

module _ (text : List ℕ) (i : ℕ) (h : i < length text) where
  pub from-here : is_digit (get_or text i 0) ≡ true → from_digit (drop i text) ≡ drop i text
  unfolding from_digit
  from-here e = rw (drop-cons text i 0 h, e)

  pub from-later : is_digit (get_or text i 0) ≡ false → from_digit (drop i text) ≡ from_digit (drop (i + 1) text)
  unfolding from_digit
  from-later e = rw (add-one, drop-cons text i 0 h, e)

  past-digit : is_digit (get_or text i 0) ≡ true → past_digits (drop i text) ≡ past_digits (drop (i + 1) text)
  unfolding past_digits
  past-digit e = rw (add-one, drop-cons text i 0 h, e)

  past-other : is_digit (get_or text i 0) ≡ false → past_digits (drop i text) ≡ drop i text
  unfolding past_digits
  past-other e = rw (drop-cons text i 0 h, e)

  decimal_digit : (v : ℕ) → is_digit (get_or text i 0) ≡ true → decimal v (drop i text) ≡ decimal (v * 10 + (get_or text i 0 - 48)) (drop (i + 1) text)
  unfolding decimal
  decimal_digit v e = rw (add-one, drop-cons text i 0 h, e)

  decimal-other : (v : ℕ) → is_digit (get_or text i 0) ≡ false → decimal v (drop i text) ≡ v
  unfolding decimal
  decimal-other v e = rw (drop-cons text i 0 h, e)

-- ---- the text's end

pub from_end : (text : List ℕ) (i : ℕ) → length text ≤ i → from_digit (drop i text) ≡ drop (length text) text
unfolding from_digit
from_end text i h = rw (drop_of_length-le text h, drop_of_length-le text {i = length text} (omega arith))

-- ---- the value

digit-least : (b : ℕ) → is_digit b ≡ true → (48 ≤ b) × (b ≤ 57)
digit-least b e = (leb-true 48 b (both (leb 48 b) (leb b 57) e).0, leb-true b 57 (both (leb 48 b) (leb b 57) e).1)
  where
    both : (p q : Bool) → p && q ≡ true → (p ≡ true) × (q ≡ true)
    both true q e = (refl, e)
    both false true e = (e, refl)
    both false false e = (e, e)

either : (t : Bool) (v x : ℕ) → v ≤ x → v ≤ cond t x v
either true v x h = h
either false v x h = omega arith

decimal-grows : (v : ℕ) (bytes : List ℕ) → v ≤ decimal v bytes
unfolding decimal
decimal-grows v [] = omega arith
decimal-grows v (b ∷ bytes) = either (is_digit b) v _ (omega (arith, decimal-grows (v * 10 + (b - 48)) bytes))

-- ---- the loop over the digits

-- what is read from place i on, after the digits of v, is the number
pub record Reading (text : List ℕ) (at i v : ℕ) : Type 0 where
  pub inside : i ≤ length text
  pub past : past_digits (drop i text) ≡ past_digits (from_digit (drop at text))
  pub value : decimal 0 (from_digit (drop at text)) < 2 ^ 64 → decimal v (drop i text) ≡ decimal 0 (from_digit (drop at text))

pub reading-first : (text : List ℕ) (at i : ℕ) → drop i text ≡ from_digit (drop at text) → i ≤ length text → Reading text at i 0
reading-first text at i e h = record { inside = h; past = ap past_digits e; value = λ f. ap (decimal 0) e }

module _ (text : List ℕ) (at i v : ℕ) (r : Reading text at i v) where
  pub reading-more : (b w : ℕ) → i < length text → b ≡ get_or text i 0 → is_digit b ≡ true
      → (v * 10 + b % 16 < 2 ^ 64 → w ≡ v * 10 + b % 16) → Reading text at (i + 1) w
  reading-more b w h e d said =
      let told : is_digit (get_or text i 0) ≡ true = rw (← e) d in
      let step = decimal_digit text i h v told in
      let low = digit-least b d in
      record {
        inside = omega arith;
        past = sym (past-digit text i h told) ∙ r.past;
        value = λ fits.
            let whole = r.value fits in
            let grows = decimal-grows (v * 10 + (get_or text i 0 - 48)) (drop (i + 1) text) in
            let same : v * 10 + b % 16 ≡ v * 10 + (get_or text i 0 - 48) = omega (arith, low.0, low.1, e) in
            let w-is : w ≡ v * 10 + (get_or text i 0 - 48) = said (omega (arith, same, grows, step, whole, fits)) ∙ same in
            ap (λ x. decimal x (drop (i + 1) text)) w-is ∙ sym step ∙ whole;
      }

  -- where the digits end
  pub reads_other : i < length text → is_digit (get_or text i 0) ≡ false → Reads text at (record { value = v; next = i })
  reads_other h e = record {
    value = λ fits. sym (decimal-other text i h v e) ∙ r.value fits;
    next =
        let left : length (past_digits (from_digit (drop at text))) ≡ length text - i = ap length (sym r.past ∙ past-other text i h e) ∙ length-drop i text in
        omega (arith, left, r.inside);
  }

  pub reads_end : length text ≤ i → Reads text at (record { value = v; next = length text })
  unfolding decimal past_digits
  reads_end h =
      let nothing : drop i text ≡ [] = drop_of_length-le text h in
      record {
        value = λ fits. sym (ap (decimal v) nothing) ∙ r.value fits;
        next =
            let left : length (past_digits (from_digit (drop at text))) ≡ 0 = ap length (sym r.past ∙ ap past_digits nothing) in
            omega (arith, left, r.inside);
      }
