-- A number written in decimal: the first run of digits from a place on, its value, and the place after it.
-- Assumes nothing.
use Rattle.std.specs.Prelude.{◌≡◌, ℕ, ◌+◌, ◌-◌, ◌*◌, ◌^◌, ◌<◌, Bool, cond, ◌&&◌, List, [], ◌∷◌, length, drop, nat_le}
use Rattle.cases.specs.declared.Numeral.{Numeral}

-- the bytes of 0 to 9
abbrev pub is_digit : ℕ → Bool
is_digit b = nat_le 48 b && nat_le b 57

-- the bytes from the first digit on
unfoldable pub from_digit : List ℕ → List ℕ
from_digit [] = []
from_digit (b ∷ bytes) = cond (is_digit b) (b ∷ bytes) (from_digit bytes)

-- the bytes after the digits at the front
unfoldable pub past_digits : List ℕ → List ℕ
past_digits [] = []
past_digits (b ∷ bytes) = cond (is_digit b) (past_digits bytes) (b ∷ bytes)

-- the value of the digits at the front, written after those of v
unfoldable pub decimal : ℕ → List ℕ → ℕ
decimal v [] = v
decimal v (b ∷ bytes) = cond (is_digit b) (decimal (v * 10 + (b - 48)) bytes) v

-- the first number from `at` on where it fits in 64 bits, 0 where there is none; and the place after its last digit, which is the
-- text's length where there is none
pub record Reads (text : List ℕ) (at : ℕ) (r : Numeral) : Type 0 where
  pub value : decimal 0 (from_digit (drop at text)) < 2 ^ 64 → r.value ≡ decimal 0 (from_digit (drop at text))
  pub next : r.next ≡ length text - length (past_digits (from_digit (drop at text)))
