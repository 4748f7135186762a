-- The digits of a number: they are digits, they spell it, they are those of its tenth and its last one, and a 64-bit number has at most 20.
use mathlib.Core.Path.{◌≡◌, refl, ◌∙◌, ap}
use mathlib.Core.Bool.{Bool, true}
use mathlib.Core.List.{[], ◌∷◌, ◌++◌}
use Prim.Native.Nat.{ℕ, zero, suc, ◌+◌, ◌-◌, ◌*◌, ◌/◌, ◌%◌, ◌^◌, ◌≤◌, ◌<◌}
use native.Mathlib.Omega.{arith}
use lib.Dec.{ltb}
use lib.ListN.{length, length-append}
use borrow.Author.Tests.{lt-ltb, le-ltb, ltb-true, ltb-false, le-leb}
use Rattle.paper.specs.Text.{Text, all, is_digit, value, value_from}
use Rattle.paper.specs.Print.{spell, decimal}
use Rattle.paper.proofs.Tests.{by_cases, and_left, and_right, and_both}

value-append : (n : ℕ) (a b : Text) → value_from n (a ++ b) ≡ value_from (value_from n a) b
unfolding value_from
value-append n [] b = refl
value-append n (c ∷ a) b = value-append (n * 10 + (c - 48)) a b

all_append : (q : ℕ → Bool) (a b : Text) → all q a ≡ true → all q b ≡ true → all q (a ++ b) ≡ true
unfolding all
all_append q [] b h k = k
all_append q (c ∷ a) b h k = and_both (q c) (all q (a ++ b)) (and_left (q c) (all q a) h) (all_append q a b (and_right (q c) (all q a) h) k)

spell-value : (k n : ℕ) → n ≤ k → value_from 0 (spell k n) ≡ n
unfolding spell value_from
spell-value zero n h = omega arith
spell-value (suc k) n h =
    by_cases (ltb n 10)
    (λ e. rw e (omega arith))
    (λ e.
    let i : 10 ≤ n = ltb-false n 10 e in
    let ih : value_from 0 (spell k (n / 10)) ≡ n / 10 = spell-value k (n / 10) (omega arith) in
    rw e (value-append 0 (spell k (n / 10)) ((48 + n % 10) ∷ []) ∙ rw ih (omega arith)))

digit-is : (d : ℕ) → d < 10 → is_digit (48 + d) ≡ true
unfolding is_digit
digit-is d h = and_both _ _ (le-leb 48 (48 + d) (omega arith)) (le-leb (48 + d) 57 (omega arith))

spell-digits : (k n : ℕ) → n ≤ k → all is_digit (spell k n) ≡ true
unfolding spell all
spell-digits zero n h = and_both _ true (digit-is n (omega arith)) refl
spell-digits (suc k) n h =
    by_cases (ltb n 10)
    (λ e. rw e (and_both _ true (digit-is n (ltb-true n 10 e)) refl))
    (λ e.
    let i : 10 ≤ n = ltb-false n 10 e in
    rw e (all_append is_digit (spell k (n / 10)) ((48 + n % 10) ∷ []) (spell-digits k (n / 10) (omega arith)) (and_both _ true (digit-is (n % 10) (omega arith)) refl)))

pub spell-some : (k n : ℕ) → 1 ≤ length (spell k n)
unfolding spell
spell-some zero n = omega arith
spell-some (suc k) n = by_cases (ltb n 10) (λ e. rw e (omega arith)) (λ e. rw e (omega (arith, length-append (spell k (n / 10)) ((48 + n % 10) ∷ []))))

-- A number's digits read back as the number.
pub decimal-value : (n : ℕ) → value (decimal n) ≡ n
unfolding decimal
decimal-value n = spell-value n n (omega arith)

pub decimal-digits : (n : ℕ) → all is_digit (decimal n) ≡ true
unfolding decimal
decimal-digits n = spell-digits n n (omega arith)

pub decimal-some : (n : ℕ) → 1 ≤ length (decimal n)
unfolding decimal
decimal-some n = spell-some n n

-- ## How many

-- more fuel changes nothing
spell_enough : (j k n : ℕ) → n ≤ j → n ≤ k → spell j n ≡ spell k n
unfolding spell
spell_enough zero zero n h i = refl
spell_enough zero (suc k) n h i = rw (lt-ltb n 10 (omega arith))
spell_enough (suc j) zero n h i = rw (lt-ltb n 10 (omega arith))
spell_enough (suc j) (suc k) n h i =
    by_cases (ltb n 10) (λ e. rw e)
    (λ e. let l : 10 ≤ n = ltb-false n 10 e in rw (e, spell_enough j k (n / 10) (omega arith) (omega arith)))

pub decimal-one : (n : ℕ) → n < 10 → decimal n ≡ (48 + n) ∷ []
unfolding decimal spell
decimal-one zero h = refl
decimal-one (suc n) h = rw (lt-ltb (suc n) 10 h)

pub decimal-more : (n : ℕ) → 10 ≤ n → decimal n ≡ decimal (n / 10) ++ ((48 + n % 10) ∷ [])
unfolding decimal spell
decimal-more zero h = absurd (omega arith)
decimal-more (suc n) h =
    rw (le-ltb (suc n) 10 h, spell_enough n (suc n / 10) (suc n / 10) (omega arith) (omega arith))

length_more : (n : ℕ) → 10 ≤ n → length (decimal n) ≡ length (decimal (n / 10)) + 1
length_more n h = ap length (decimal-more n h) ∙ length-append (decimal (n / 10)) ((48 + n % 10) ∷ [])

-- k + 1 digits are enough below ten times 10^k
unfoldable pub ten_to : ℕ → ℕ
ten_to zero = 10
ten_to (suc k) = 10 * ten_to k

pub short : (k n : ℕ) → n < ten_to k → length (decimal n) ≤ suc k
unfolding ten_to
short zero n h = omega (arith, ap length (decimal-one n h))
short (suc k) n h =
    by_cases (ltb n 10)
    (λ e. omega (arith, ap length (decimal-one n (ltb-true n 10 e))))
    (λ e.
    let l : 10 ≤ n = ltb-false n 10 e in
    let i = short k (n / 10) (omega arith) in
    omega (arith, length_more n l))

pub decimal-short : (n : ℕ) → n < 2 ^ 64 → length (decimal n) ≤ 20
unfolding ten_to
decimal-short n h = short 19 n (omega arith)
