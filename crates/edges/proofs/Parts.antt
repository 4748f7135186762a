-- A byte of a line makes of what is held of it what the definition's byte makes.
use mathlib.Core.Path.{◌≡◌}
use mathlib.Core.Bool.{true, false}
use Prim.Native.Nat.{ℕ, suc, ◌+◌, ◌-◌, ◌*◌, ◌≤◌, ◌<◌}
use native.Mathlib.Omega.{arith}
use native.Mathlib.Numerals.{add-one}
use lib.Dec.{leb}
use lib.ListN.{length, get_or, drop, drop_of_length-le}
use lib.Seq.{drop-cons}
use borrow.Author.Tests.{eq-eqb, ne_eqb, lt-ltb, le-ltb, le-leb, lt-leb}
use Rattle.paper.specs.Basics.{◌and◌}
use Rattle.paper.specs.Text.{Text, is_digit}
use Rattle.paper.specs.Bytes.{tally}
use Rattle.paper.proofs.Fields.{and-false}
use Rattle.survey.specs.Bytes.{broken, in_word, in_first, in_second, await, word_byte, digit_byte, line_byte}

-- ## A digit
module _ (n b : ℕ) where
  pub tally-on : 48 ≤ b → b ≤ 57 → n < 10000 → n * 10 + (b - 48) ≡ tally n b
  unfolding tally is_digit ◌and◌
  tally-on l h m = rw (le-leb 48 b l, le-leb b 57 h, lt-ltb n 10000 m)

  pub tally-full : 10000 ≤ n → n ≡ tally n b
  unfolding tally ◌and◌
  tally-full m = rw (le-ltb n 10000 m, and-false (is_digit b))

  pub tally-high : 57 < b → n ≡ tally n b
  unfolding tally is_digit ◌and◌
  tally-high h = rw (lt-leb b 57 h, and-false (leb 48 b))

  pub tally-low : b < 48 → n ≡ tally n b
  unfolding tally is_digit ◌and◌
  tally-low l = rw (lt-leb 48 b l)

-- ## The word
module _ (w : Text) (k b : ℕ) where
  pub word-past : length w ≤ k → broken ≡ word_byte (drop k w) b
  unfolding word_byte
  word-past h = rw (drop_of_length-le w {i = k} h)

  module _ (h : k < length w) where
    pub word-off : (b ≡ get_or w k 0 → ⊥) → broken ≡ word_byte (drop k w) b
    unfolding word_byte
    word-off n = rw (drop-cons w k 0 h, ne_eqb b (get_or w k 0) n)

    module _ (e : b ≡ get_or w k 0) where
      pub word-last : k + 1 ≡ length w → in_first 0 0 ≡ word_byte (drop k w) b
      unfolding word_byte await
      word-last l = rw (drop-cons w k 0 h, eq-eqb b (get_or w k 0) e, drop_of_length-le w {i = suc k} (omega arith))

      pub word_on : (k + 1 ≡ length w → ⊥) → in_word (drop (k + 1) w) ≡ word_byte (drop k w) b
      unfolding word_byte await
      word_on n =
          rw (drop-cons w k 0 h, eq-eqb b (get_or w k 0) e, add-one k, drop-cons w (suc k) 0 (more n))
        where
          more : (k + 1 ≡ length w → ⊥) → suc k < length w
          more n = omega (arith, n)

-- ## The numbers
module _ (w : Text) (k n b : ℕ) where
  pub first-space : b ≡ 32 → 1 ≤ k → in_second n 0 0 ≡ line_byte w (in_first k n) b
  unfolding line_byte
  first-space e h = rw (e, le-leb 1 k h)

  pub first-none : b ≡ 32 → k < 1 → broken ≡ line_byte w (in_first k n) b
  unfolding line_byte
  first-none e h = rw (e, lt-leb 1 k h)

  module _ (e : b ≡ 32 → ⊥) where
    pub first_on : k < 5 → is_digit b ≡ true → (m : ℕ) → m ≡ tally n b → in_first (k + 1) m ≡ line_byte w (in_first k n) b
    unfolding line_byte digit_byte ◌and◌
    first_on h d m q = rw (ne_eqb b 32 e, d, lt-ltb k 5 h, add-one k, q)

    pub first-other : is_digit b ≡ false → broken ≡ line_byte w (in_first k n) b
    unfolding line_byte digit_byte ◌and◌
    first-other d = rw (ne_eqb b 32 e, d)

    pub first-long : 5 ≤ k → broken ≡ line_byte w (in_first k n) b
    unfolding line_byte digit_byte ◌and◌
    first-long h = rw (ne_eqb b 32 e, le-ltb k 5 h, and-false (is_digit b))

  module _ (p : ℕ) where
    pub second-on : k < 5 → is_digit b ≡ true → (m : ℕ) → m ≡ tally n b → in_second p (k + 1) m ≡ line_byte w (in_second p k n) b
    unfolding line_byte digit_byte ◌and◌
    second-on h d m q = rw (d, lt-ltb k 5 h, add-one k, q)

    pub second-other : is_digit b ≡ false → broken ≡ line_byte w (in_second p k n) b
    unfolding line_byte digit_byte ◌and◌
    second-other d = rw d

    pub second-long : 5 ≤ k → broken ≡ line_byte w (in_second p k n) b
    unfolding line_byte digit_byte ◌and◌
    second-long h = rw (le-ltb k 5 h, and-false (is_digit b))
