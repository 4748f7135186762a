-- What is printed reads back: no digit is a space or a bracket, so each line splits where it was joined, and digits spell their
-- number.
use mathlib.Core.Path.{◌≡◌, refl, ap}
use mathlib.Core.Bool.{true, false}
use mathlib.Core.List.{List, [], ◌∷◌, ◌++◌, map, append-nil, append_assoc}
use mathlib.Core.Option.{some}
use Prim.Native.Nat.{ℕ}
use lib.Dec.{eqb}
use lib.ListN.{length, get_or}
use borrow.Author.Tests.{eq-eqb, le-leb}
use Rattle.paper.specs.Basics.{◌and◌}
use Rattle.paper.specs.Yard.{Crossing}
use Rattle.paper.specs.Text.{Text, SPACE, join, lines, split, same, all, is_digit}
use Rattle.paper.specs.Print.{decimal, action_line, cost_line, plan_lines, print_plan, number_after, read_action, read_plan}
use Rattle.laws.proofs.Digits.{decimal-value, decimal-digits, decimal-some}
use Rattle.laws.proofs.Lines.{split-number, plain, AllPlain, lines-ended, number-plain, all_cat}

number-back : (c n : ℕ) → number_after c (c ∷ decimal n ++ []) ≡ some n
unfolding number_after ◌and◌
number-back c n =
    rw (append-nil (decimal n), eq-eqb c c refl, le-leb 1 (length (decimal n)) (decimal-some n), decimal-digits n) (ap some (decimal-value n))

-- ## An action
abbrev moved : ℕ → ℕ → ℕ → Text → Text
moved c a b end =
    40 ∷ 109 ∷ 111 ∷ 118 ∷ 101 ∷ 32 ∷ 99 ∷ (decimal c ++ (32 ∷ 98 ∷ (decimal a ++ (32 ∷ 98 ∷ (decimal b ++ end)))))

action-is : (x : Crossing) → action_line x ≡ moved x.carrier x.from x.to (41 ∷ [])
unfolding action_line
action-is x = simp append_assoc

module _ (c a b : ℕ) where
  at_bracket : split 41 (moved c a b (41 ∷ [])) ≡ moved c a b [] ∷ [] ∷ []
  unfolding split join is_digit ◌and◌
  at_bracket =
      rw (
        split-number 41 c (32 ∷ 98 ∷ (decimal a ++ (32 ∷ 98 ∷ (decimal b ++ (41 ∷ []))))) refl,
        split-number 41 a (32 ∷ 98 ∷ (decimal b ++ (41 ∷ []))) refl,
        split-number 41 b (41 ∷ []) refl,
      )

  at-spaces : split SPACE (moved c a b []) ≡ (40 ∷ 109 ∷ 111 ∷ 118 ∷ 101 ∷ []) ∷ (99 ∷ decimal c ++ []) ∷ (98 ∷ decimal a ++ []) ∷ (98 ∷ decimal b ++ []) ∷ []
  unfolding split join is_digit ◌and◌
  at-spaces =
      rw (
        split-number 32 c (32 ∷ 98 ∷ (decimal a ++ (32 ∷ 98 ∷ (decimal b ++ [])))) refl,
        split-number 32 a (32 ∷ 98 ∷ (decimal b ++ [])) refl,
        split-number 32 b [] refl,
      )

pub action-back : (x : Crossing) → read_action (action_line x) ≡ some x
unfolding read_action same ◌and◌
action-back x =
    rw (action-is x, at_bracket x.carrier x.from x.to, at-spaces x.carrier x.from x.to, number-back 99 x.carrier, number-back 98 x.from, number-back 98 x.to)

pub action-plain : (x : Crossing) → all plain (action_line x) ≡ true
unfolding all plain ◌and◌
action-plain x = rw (action-is x) (simp (all_cat, number-plain))

pub cost-plain : (n : ℕ) → all plain (cost_line n) ≡ true
unfolding cost_line all plain ◌and◌
cost-plain n = simp (all_cat, number-plain)

-- ## The plan
plan-plain : (xs : List Crossing) (n : ℕ) → AllPlain (map action_line xs ++ (cost_line n ∷ []))
plan-plain [] n = (cost-plain n, tt)
plan-plain (x ∷ xs) n = (action-plain x, plan-plain xs n)

lines-back : (xs : List Crossing) (n : ℕ) → read_plan (map action_line xs ++ (cost_line n ∷ [])) ≡ some xs
unfolding read_plan cost_line
lines-back [] n = refl
lines-back (x ∷ xs) n =
    let q : eqb (get_or (action_line x) 0 0) 59 ≡ false = rw (action-is x) refl in
    rw (q, action-back x, lines-back xs n)

-- The print of a plan reads back as the plan.
pub print-back : (xs : List Crossing) → read_plan (lines (print_plan xs)) ≡ some xs
unfolding print_plan plan_lines
print-back xs = rw (lines-ended (map action_line xs ++ (cost_line (length xs) ∷ [])) (plan-plain xs (length xs))) (lines-back xs (length xs))
