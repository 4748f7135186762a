-- What is printed with times reads back as the crossings and their slots: no digit is a colon, a space or a line's end, so each line splits where it
-- was joined; its action is a line of the plain print, which reads back; and a slot from 1 is one more than its time.
use mathlib.Core.Path.{◌≡◌, refl, sym, ◌∙◌, ap}
use mathlib.Core.Bool.{true, false}
use mathlib.Core.List.{List, [], ◌∷◌, ◌++◌, map, append-nil, append_assoc}
use mathlib.Core.Option.{some}
use Prim.Native.Nat.{ℕ, suc, ◌-◌, ◌≤◌, ◌<◌}
use native.Mathlib.Omega.{arith}
use lib.Dec.{eqb}
use lib.ListN.{length, get_or, get_or-append}
use borrow.Author.Tests.{ne_eqb, leb-true, le-leb}
use Rattle.paper.specs.Basics.{◌and◌}
use Rattle.paper.specs.Yard.{Crossing}
use Rattle.paper.specs.Dependence.{slots}
use Rattle.paper.specs.Text.{Text, SPACE, join, lines, split, same, all, is_digit}
use Rattle.paper.specs.Print.{decimal, action_line, cost_line}
use Rattle.paper.proofs.Tests.{and_left, and_right}
use Rattle.laws.proofs.Digits.{decimal-value, decimal-digits, decimal-some}
use Rattle.laws.proofs.Lines.{split-number, plain, AllPlain, lines-ended, number-plain, all_cat}
use Rattle.laws.proofs.Printing.{action-back, action-plain, cost-plain}
use Rattle.paper.proofs.Slotting as first
use Rattle.trains.specs.Slots.{with_slots, train_slots}
use Rattle.trains.specs.Print.{timed_line, timed_lines, print_timed, read_time, spaced, read_timed_line, read_timed}
use Rattle.trains.proofs.Meeting.{slots_length}
use Rattle.trains.proofs.Lowest.{slots-keep}

-- ## A line
line_plain : (s : ℕ) (x : Crossing) → all plain (timed_line s x) ≡ true
unfolding timed_line all plain ◌and◌
line_plain s x = simp (all_cat, number-plain, action-plain)

time-back : (t : ℕ) → read_time (decimal t ++ (58 ∷ [])) ≡ some t
unfolding read_time split join same is_digit ◌and◌
time-back t =
    rw (split-number 58 t (58 ∷ []) refl, append-nil (decimal t), le-leb 1 (length (decimal t)) (decimal-some t), decimal-digits t) (ap some (decimal-value t))

abbrev behind : ℕ → ℕ → ℕ → Text
behind c a b =
    58 ∷ 32 ∷ 40 ∷ 109 ∷ 111 ∷ 118 ∷ 101 ∷ 32 ∷ 99 ∷ (decimal c ++ (32 ∷ 98 ∷ (decimal a ++ (32 ∷ 98 ∷ (decimal b ++ (41 ∷ 32 ∷ 91 ∷ 49 ∷ 93 ∷ []))))))

module _ (t c a b : ℕ) where
  -- a line as bytes: the time, and what is behind it
  abbrev spelled : Text
  spelled = decimal t ++ behind c a b

  abbrev words : List Text
  words =
      (decimal t ++ (58 ∷ []))
      ∷ (40 ∷ 109 ∷ 111 ∷ 118 ∷ 101 ∷ [])
      ∷ (99 ∷ decimal c ++ [])
      ∷ (98 ∷ decimal a ++ [])
      ∷ (98 ∷ decimal b ++ (41 ∷ []))
      ∷ (91 ∷ 49 ∷ 93 ∷ [])
      ∷ []

  at-spaces : split SPACE spelled ≡ words
  unfolding split join is_digit ◌and◌
  at-spaces =
      rw (
        split-number 32 t (behind c a b) refl,
        split-number 32 c (32 ∷ 98 ∷ (decimal a ++ (32 ∷ 98 ∷ (decimal b ++ (41 ∷ 32 ∷ 91 ∷ 49 ∷ 93 ∷ []))))) refl,
        split-number 32 a (32 ∷ 98 ∷ (decimal b ++ (41 ∷ 32 ∷ 91 ∷ 49 ∷ 93 ∷ []))) refl,
        split-number 32 b (41 ∷ 32 ∷ 91 ∷ 49 ∷ 93 ∷ []) refl,
      )

line-is : (s : ℕ) (x : Crossing) → timed_line s x ≡ spelled (s - 1) x.carrier x.from x.to
unfolding timed_line action_line
line-is s x = simp append_assoc

action-words : (x : Crossing)
    → spaced ((40 ∷ 109 ∷ 111 ∷ 118 ∷ 101 ∷ []) ∷ (99 ∷ decimal x.carrier ++ []) ∷ (98 ∷ decimal x.from ++ []) ∷ (98 ∷ decimal x.to ++ (41 ∷ [])) ∷ [])
    ≡ action_line x
unfolding action_line spaced
action-words x = rw (append-nil (decimal x.carrier), append-nil (decimal x.from)) (sym (simp append_assoc))

line-back : (s : ℕ) (x : Crossing) → 1 ≤ s → read_timed_line (timed_line s x) ≡ some (x, s)
unfolding read_timed_line same ◌and◌
line-back s x h =
    let one : suc (s - 1) ≡ s = omega arith in
    rw (line-is s x, at-spaces (s - 1) x.carrier x.from x.to, action-words x, time-back (s - 1), action-back x) (ap (λ n. some (x, n)) one)

digits-no-comment : (l : Text) → 1 ≤ length l → all is_digit l ≡ true → eqb (get_or l 0 0) 59 ≡ false
unfolding all is_digit
digits-no-comment [] h k = absurd (omega arith)
digits-no-comment (b ∷ l) h k = let d = leb-true b 57 (and_right _ _ (and_left _ _ k)) in ne_eqb b 59 (omega arith)

-- it begins with a digit, so it is no comment
line-no-comment : (s : ℕ) (x : Crossing) → eqb (get_or (timed_line s x) 0 0) 59 ≡ false
line-no-comment s x =
    ap (λ l. eqb (get_or l 0 0) 59) (line-is s x)
    ∙ ap (λ b. eqb b 59) (get_or-append (decimal (s - 1)) (behind x.carrier x.from x.to) 0 0 (decimal-some (s - 1)))
    ∙ digits-no-comment (decimal (s - 1)) (decimal-some (s - 1)) (decimal-digits (s - 1))

-- ## The plan

-- slots count from 1
abbrev pub FromOne : List ℕ → Type 0
FromOne ss = (i : ℕ) → i < length ss → 1 ≤ get_or ss i 0

all_plain : (ss : List ℕ) (xs : List Crossing) (n : ℕ) → AllPlain (timed_lines ss xs ++ (cost_line n ∷ []))
unfolding timed_lines
all_plain [] xs n = (cost-plain n, tt)
all_plain (s ∷ ss) [] n = (cost-plain n, tt)
all_plain (s ∷ ss) (x ∷ xs) n = (line_plain s x, all_plain ss xs n)

lines-back : (ss : List ℕ) (xs : List Crossing) (n : ℕ) → FromOne ss → read_timed (timed_lines ss xs ++ (cost_line n ∷ [])) ≡ some (with_slots ss xs)
unfolding timed_lines with_slots read_timed cost_line
lines-back [] xs n f = refl
lines-back (s ∷ ss) [] n f = refl
lines-back (s ∷ ss) (x ∷ xs) n f =
    rw (line-no-comment s x, line-back s x (f 0 (omega arith)), lines-back ss xs n (λ i h. f (suc i) (omega arith)))

-- The timed print of any crossings and any slots reads back as these crossings with these slots:
pub timed-back : (ss : List ℕ) (xs : List Crossing) → FromOne ss → read_timed (lines (print_timed ss xs)) ≡ some (with_slots ss xs)
unfolding print_timed
timed-back ss xs f = rw (lines-ended (timed_lines ss xs ++ (cost_line (length xs) ∷ [])) (all_plain ss xs (length xs))) (lines-back ss xs (length xs) f)

-- where there is one slot a crossing, all of the crossings and all of the slots, in order.
pub crossings-back : (ss : List ℕ) (xs : List Crossing) → length ss ≡ length xs → map (λ m. m.0) (with_slots ss xs) ≡ xs
unfolding with_slots
crossings-back [] [] h = refl
crossings-back [] (x ∷ xs) h = absurd (omega arith)
crossings-back (s ∷ ss) [] h = absurd (omega arith)
crossings-back (s ∷ ss) (x ∷ xs) h = ap (λ l. x ∷ l) (crossings-back ss xs (omega arith))

pub slots-back : (ss : List ℕ) (xs : List Crossing) → length ss ≡ length xs → map (λ m. m.1) (with_slots ss xs) ≡ ss
unfolding with_slots
slots-back [] xs h = refl
slots-back (s ∷ ss) [] h = absurd (omega arith)
slots-back (s ∷ ss) (x ∷ xs) h = ap (λ l. s ∷ l) (slots-back ss xs (omega arith))

-- Both editions' slots count from 1.
pub first-from-one : (xs : List Crossing) → FromOne (slots xs)
first-from-one xs i h = (first.slots-rise xs).from_one i (rw (first.slots_length xs) at h)

pub trains-from-one : (xs : List Crossing) → FromOne (train_slots xs)
trains-from-one xs i h = (slots-keep xs).from_one i (rw (slots_length xs) at h)
