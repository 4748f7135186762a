-- A side is its one or two digits' number if that is at most 64: a byte that is no digit counts as 100, so it spoils the number.
use Rattle.std.specs.Prelude.{if◌then◌else◌}
use mathlib.Core.Path.{◌≡◌, refl, ◌∙◌}
use mathlib.Core.Bool.{true, false}
use mathlib.Core.List.{[], ◌∷◌}
use mathlib.Core.Option.{Option, none}
use Prim.Native.Nat.{ℕ, zero, suc, ◌+◌, ◌-◌, ◌*◌, ◌<◌}
use native.Mathlib.Omega.{arith}
use lib.Dec.{leb}
use lib.ListN.{length, take, drop, get_or, length-drop}
use lib.Seq.{take_all}
use borrow.Author.Tests.{le-leb, lt-leb}
use Rattle.paper.specs.Basics.{◌and◌, when}
use Rattle.paper.specs.Text.{Text, all, is_digit, value, value_from, sized, is_number}
use Rattle.paper.specs.Map.{side_after, most_side}
use Rattle.paper.proofs.Tests.{by_cases}
use Rattle.paper.proofs.Fields.{and-false}
use Rattle.lines.specs.Lines.{begins}
use Rattle.lines.proofs.Words.{begins-take, begins-long}
use Rattle.sides.specs.Letters.{digit_of, side_of, side_in}

-- a side by its number
abbrev limited : ℕ → Option ℕ
limited v = when (leb 1 v and leb v most_side) v

sided : (v : ℕ) → side_of (if leb v 64 then v else 0) ≡ limited v
unfolding side_of ◌and◌
sided zero = refl
sided (suc n) = rw (le-leb 1 (suc n) (omega arith)) (by_cases (leb (suc n) 64) (λ e. rw e) (λ e. rw e))

in-digits : (l : Text) → is_number 2 l ≡ true → limited (value l) ≡ side_in l
unfolding side_in ◌and◌
in-digits l e = rw e

pub in-none : (l : Text) → is_number 2 l ≡ false → none ≡ side_in l
unfolding side_in ◌and◌
in-none l e = rw e

spoilt : (d : ℕ) (l : Text) → 64 < d → is_number 2 l ≡ false → side_of (if leb d 64 then d else 0) ≡ side_in l
unfolding side_of
spoilt d l h e = rw (lt-leb d 64 h) (in-none l e)

one-digit : (a : ℕ) → is_digit a ≡ true → side_of (if leb (digit_of a) 64 then digit_of a else 0) ≡ side_in (a ∷ [])
unfolding digit_of is_number sized all value_from ◌and◌
one-digit a t =
    let q : value (a ∷ []) ≡ digit_of a = rw t (omega arith) in
    rw (← q) (sided (value (a ∷ [])) ∙ in-digits (a ∷ []) (rw t))

one-other : (a : ℕ) → is_digit a ≡ false → side_of (if leb (digit_of a) 64 then digit_of a else 0) ≡ side_in (a ∷ [])
unfolding digit_of is_number sized all ◌and◌
one-other a f = spoilt (digit_of a) (a ∷ []) (rw f (omega arith)) (rw f)

pub side-one : (l : Text) → length l ≡ 1 → side_of (if leb (digit_of (get_or l 0 0)) 64 then digit_of (get_or l 0 0) else 0) ≡ side_in l
side-one [] h = absurd (omega arith)
side-one (a ∷ []) h = by_cases (is_digit a) (one-digit a) (one-other a)
side-one (a ∷ b ∷ l) h = absurd (omega arith)

abbrev two : ℕ → ℕ → ℕ
two a b = digit_of a * 10 + digit_of b

two_digits : (a b : ℕ) → is_digit a ≡ true → is_digit b ≡ true → side_of (if leb (two a b) 64 then two a b else 0) ≡ side_in (a ∷ b ∷ [])
unfolding digit_of is_number sized all value_from ◌and◌
two_digits a b t u =
    let q : value (a ∷ b ∷ []) ≡ two a b = rw (t, u) (omega arith) in
    rw (← q) (sided (value (a ∷ b ∷ [])) ∙ in-digits (a ∷ b ∷ []) (rw (t, u)))

first-other : (a b : ℕ) → is_digit a ≡ false → side_of (if leb (two a b) 64 then two a b else 0) ≡ side_in (a ∷ b ∷ [])
unfolding digit_of is_number sized all ◌and◌
first-other a b f = spoilt (two a b) (a ∷ b ∷ []) (rw f (omega arith)) (rw f)

second-other : (a b : ℕ) → is_digit b ≡ false → side_of (if leb (two a b) 64 then two a b else 0) ≡ side_in (a ∷ b ∷ [])
unfolding digit_of is_number sized all ◌and◌
second-other a b f = spoilt (two a b) (a ∷ b ∷ []) (rw f (omega arith)) (rw f (and-false (is_digit a)))

pub side-two : (l : Text) → length l ≡ 2 → side_of (if leb (two (get_or l 0 0) (get_or l 1 0)) 64 then two (get_or l 0 0) (get_or l 1 0) else 0) ≡ side_in l
side-two [] h = absurd (omega arith)
side-two (a ∷ []) h = absurd (omega arith)
side-two (a ∷ b ∷ []) h =
    by_cases (is_digit a) (λ t. by_cases (is_digit b) (two_digits a b t) (second-other a b)) (first-other a b)
side-two (a ∷ b ∷ c ∷ l) h = absurd (omega arith)

pub side-other : (l : Text) → (length l ≡ 1 → ⊥) → (length l ≡ 2 → ⊥) → side_of 0 ≡ side_in l
unfolding side_of is_number sized ◌and◌
side-other [] n m = in-none [] refl
side-other (a ∷ []) n m = absurd (n refl)
side-other (a ∷ b ∷ []) n m = absurd (m refl)
side-other (a ∷ b ∷ c ∷ l) n m = in-none (a ∷ b ∷ c ∷ l) (rw (lt-leb (length (a ∷ b ∷ c ∷ l)) 2 (omega arith), and-false (leb 1 (length (a ∷ b ∷ c ∷ l)))))

-- ## Behind the word
pub after-word : (w l : Text) → begins w l ≡ true → side_in (take (length l - length w) (drop (length w) l)) ≡ side_after w l
unfolding side_in side_after ◌and◌
after-word w l h =
    rw (take_all (length l - length w) (drop (length w) l) (rw (length-drop (length w) l) (omega arith)), ← begins-take w l, h)

pub after-other : (w l : Text) → begins w l ≡ false → side_of 0 ≡ side_after w l
unfolding side_of side_after ◌and◌
after-other w l h = rw (← begins-take w l, h)

pub after-short : (w l : Text) → begins w l ≡ true → length l < length w → side_of 0 ≡ side_after w l
after-short w l h i = let j = begins-long w l h in absurd (omega arith)
