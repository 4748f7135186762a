-- Numbers as they are written: digits have no leading zero and no space in them.
use mathlib.Core.Path.{◌≡◌, refl, sym, ◌∙◌, ap}
use mathlib.Core.Bool.{true}
use mathlib.Core.List.{List, [], ◌∷◌, ◌++◌, append-nil}
use Prim.Native.Nat.{ℕ, zero, suc, ◌+◌, ◌/◌, ◌%◌, ◌≤◌, ◌<◌}
use native.Mathlib.Omega.{arith}
use lib.Dec.{ltb}
use lib.ListN.{length, get_or, get_or-append}
use borrow.Author.Tests.{ltb-false, le-leb}
use Rattle.paper.specs.Basics.{◌and◌}
use Rattle.paper.specs.Text.{SPACE, split, is_digit, sized, is_number}
use Rattle.paper.specs.Print.{spell, decimal}
use Rattle.paper.proofs.Tests.{by_cases, and_both}
use Rattle.laws.proofs.Digits.{spell-some, ten_to, short, decimal-digits, decimal-some}
use Rattle.laws.proofs.Lines.{split-number}

-- ## Numbers
-- a number below 100,000 has one to five digits
pub decimal-number : (n : ℕ) → n < 100000 → is_number 5 (decimal n) ≡ true
unfolding is_number sized ten_to
decimal-number n h =
    and_both _ _ (and_both _ _ (le-leb 1 (length (decimal n)) (decimal-some n)) (le-leb (length (decimal n)) 5 (short 4 n h))) (decimal-digits n)

spell-lead : (k n : ℕ) → n ≤ k → 1 ≤ n → 49 ≤ get_or (spell k n) 0 0
unfolding spell
spell-lead zero n h i = absurd (omega arith)
spell-lead (suc k) n h i =
    by_cases (ltb n 10) (λ e. rw e (omega arith))
    (λ e.
    let l : 10 ≤ n = ltb-false n 10 e in
    rw (e, get_or-append (spell k (n / 10)) ((48 + n % 10) ∷ []) 0 0 (spell-some k (n / 10))) (spell-lead k (n / 10) (omega arith) (omega arith)))

-- "No leading zeros": the first digit of a number above 0 is above 0.
pub no-leading-zero : (n : ℕ) → 1 ≤ n → 49 ≤ get_or (decimal n) 0 0
unfolding decimal
no-leading-zero n h = spell-lead n n (omega arith) h

-- ## Fields
-- two numbers with a space between them are two fields
pub two_fields : (a b : ℕ) → split SPACE (decimal a ++ (SPACE ∷ decimal b)) ≡ decimal a ∷ decimal b ∷ []
unfolding split is_digit ◌and◌
two_fields a b =
    let last : split SPACE (decimal b) ≡ decimal b ∷ [] =
    ap (split SPACE) (sym (append-nil (decimal b))) ∙ split-number SPACE b [] refl ∙ rw append-nil in
    split-number SPACE a (SPACE ∷ decimal b) refl ∙ rw (last, append-nil)
