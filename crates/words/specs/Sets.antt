-- Sets of bays as lists of 64-bit words: bay x is bit x % 64 of word x / 64. A table holds one set in each row of equal width.
-- Assumes nothing.
use Rattle.std.specs.Prelude.{◌≡◌, Bool, true, false, not, List, ℕ, zero, suc, ◌+◌, ◌-◌, ◌*◌, ◌/◌, ◌%◌, ◌^◌, ◌≤◌, ◌<◌, eqb, length, get_or, if◌then◌else◌}
use Rattle.std.specs.Int.Bits.{bit_and}
use Rattle.paper.specs.Basics.{◌and◌, ◌or◌, filter, up_to}
use Rattle.paper.specs.Limits.{most_bays, set_words}

-- bit k of the word w, 0 or 1
unfoldable pub bit : ℕ → ℕ → ℕ
bit w k = w / 2 ^ k % 2

-- bit k of the word is set
unfoldable pub on : ℕ → ℕ → Bool
on w k = eqb (bit w k) 1

-- bay x is in the set
unfoldable pub mem : List ℕ → ℕ → Bool
mem ws x = on (get_or ws (x / 64) 0) (x % 64)

-- the bit of bay x, as it stands in word i
unfoldable pub bit_of : ℕ → ℕ → ℕ
bit_of x i = if eqb (x / 64) i then 2 ^ (x % 64) else 0

-- the members of the set, rising
unfoldable pub members : List ℕ → List ℕ
members ws = filter (mem ws) (up_to (64 * length ws))

-- The width of a row: its words, and the bays that they hold.
abbrev pub words : ℕ
words = set_words

abbrev pub span : ℕ
span = most_bays

-- bay b is in row a of the table
abbrev pub mem_row : List ℕ → ℕ → ℕ → Bool
mem_row ws a b = mem ws (a * span + b)

-- a's bits that are not b's
abbrev pub less_word : ℕ → ℕ → ℕ
less_word a b = bit_and a (2 ^ 64 - 1 - b)

-- the lowest from a on and below m that passes f; m where there is none
pub record Lowest (f : ℕ → Bool) (a m r : ℕ) : Type 0 where
  pub from : a ≤ r
  pub upto : r ≤ m
  pub hit : r < m → f r ≡ true
  pub before : (i : ℕ) → a ≤ i → i < r → f i ≡ false

-- the ring is what of `next` was not seen, and it is seen now
pub record Settled (next seen seen' ring : List ℕ) : Type 0 where
  pub ringed : (b : ℕ) → b < span → mem ring b ≡ mem next b and not (mem seen b)
  pub all_seen : (b : ℕ) → b < span → mem seen' b ≡ mem seen b or mem ring b

-- row d is the ring, and every other row is as it was
pub record Kept (rows : List ℕ) (d : ℕ) (ring rows' : List ℕ) : Type 0 where
  pub row : (b : ℕ) → b < span → mem_row rows' d b ≡ mem ring b
  pub others : (e b : ℕ) → (e ≡ d → ⊥) → b < span → mem_row rows' e b ≡ mem_row rows e b

-- the test passes for one of 0 to k − 1
unfoldable pub any_below : (ℕ → Bool) → ℕ → Bool
any_below f zero = false
any_below f (suc k) = any_below f k or f k

-- a is in the set, and b is in row a of the table
abbrev pub reaches : List ℕ → List ℕ → ℕ → ℕ → Bool
reaches table set b a = mem set a and mem_row table a b

-- what is found is in a row of the table whose number is in the set and below k
pub record Beside (table set found : List ℕ) (k : ℕ) : Type 0 where
  pub same : (b : ℕ) → b < span → mem found b ≡ any_below (reaches table set b) k
