-- Digits, pieces and lines as they are printed: no digit is a space, a bracket or a line's end, so what is joined splits where it was joined.
use mathlib.Core.Path.{◌≡◌, refl, sym, ◌∙◌, ap}
use mathlib.Core.Bool.{Bool, true, false, not}
use mathlib.Core.List.{List, [], ◌∷◌, ◌++◌}
use mathlib.Core.Logic.{◌↔◌}
use Prim.Native.Nat.{ℕ, ◌≤◌}
use native.Mathlib.Omega.{arith}
use lib.Dec.{eqb, leb}
use borrow.Author.Tests.{eqb-true, eq-eqb, ne_eqb, not-true, leb-true}
use Rattle.paper.specs.Basics.{◌and◌}
use Rattle.paper.specs.Text.{Text, LF, CR, join, lines, split, same, all, is_digit}
use Rattle.paper.specs.Print.{decimal, ended}
use Rattle.paper.proofs.Tests.{by_cases, and_left, and_right, and_both, not-both}
use Rattle.paper.proofs.Fields.{and_assoc}
use Rattle.paper.proofs.Stepping.{split-some}
use Rattle.laws.proofs.Digits.{decimal-digits}

-- ## One text
pub same-exactly : (l w : Text) → (same l w ≡ true) ↔ (l ≡ w)
unfolding same
same-exactly l w = (to l w, λ e. rw e (from w))
  where
    to : (l w : Text) → same l w ≡ true → l ≡ w
    to [] [] h = refl
    to [] (c ∷ w) h = not-both h refl
    to (b ∷ l) [] h = not-both h refl
    to (b ∷ l) (c ∷ w) h =
        let e = eqb-true b c (and_left _ _ h) in
        let f = to l w (and_right _ _ h) in
        rw (e, f)

    from : (w : Text) → same w w ≡ true
    from [] = refl
    from (c ∷ w) = and_both _ _ (eq-eqb c c refl) (from w)

-- ## Pieces
abbrev pub Without : ℕ → Text → Type 0
Without t l = all (λ b. not (eqb b t)) l ≡ true

pub digits-without : (t : ℕ) (l : Text) → is_digit t ≡ false → all is_digit l ≡ true → Without t l
unfolding all
digits-without t [] n h = refl
digits-without t (b ∷ l) n h =
    and_both _ _
    (by_cases (eqb b t) (λ e. not-both (rw (eqb-true b t e) at (and_left (is_digit b) (all is_digit l) h)) n) (λ e. rw e))
    (digits-without t l n (and_right (is_digit b) (all is_digit l) h))

abbrev pub attach : Text → List Text → List Text
attach a [] = []
attach a (l ∷ ls) = (a ++ l) ∷ ls

pub split-append : (t : ℕ) (a b : Text) → Without t a → split t (a ++ b) ≡ attach a (split t b)
unfolding split all join
split-append t [] b h = let s = split-some t b in rw s.2
split-append t (c ∷ a) b h =
    let s = split-some t b in
    let e : eqb c t ≡ false = not-true (eqb c t) (and_left (not (eqb c t)) (all (λ d. not (eqb d t)) a) h) in
    let ih : split t (a ++ b) ≡ attach a (split t b) = split-append t a b (and_right (not (eqb c t)) (all (λ d. not (eqb d t)) a) h) in
    rw (e, ih, s.2)

-- a number goes into the first piece of what is behind it
pub split-number : (t n : ℕ) (r : Text) → is_digit t ≡ false → split t (decimal n ++ r) ≡ attach (decimal n) (split t r)
split-number t n r h = split-append t (decimal n) r (digits-without t (decimal n) h (decimal-digits n))

-- ## Lines
unfoldable pub plain : ℕ → Bool
plain b = not (eqb b LF) and not (eqb b CR)

lines-append : (l r : Text) → all plain l ≡ true → lines (l ++ LF ∷ r) ≡ l ∷ lines r
unfolding lines all plain join ◌and◌
lines-append [] r h = refl
lines-append (b ∷ l) r h =
    let q = and_left (not (eqb b LF) and not (eqb b CR)) (all plain l) h in
    let e : eqb b LF ≡ false = not-true (eqb b LF) (and_left (not (eqb b LF)) (not (eqb b CR)) q) in
    let f : eqb b CR ≡ false = not-true (eqb b CR) (and_right (not (eqb b LF)) (not (eqb b CR)) q) in
    let ih : lines (l ++ LF ∷ r) ≡ l ∷ lines r = lines-append l r (and_right (not (eqb b LF) and not (eqb b CR)) (all plain l) h) in
    rw (e, f, ih)

abbrev pub AllPlain : List Text → Type 0
AllPlain [] = Unit {0}
AllPlain (l ∷ ls) = (all plain l ≡ true) × AllPlain ls

-- lines with no line end in them, written each with its end, are read as these lines
pub lines-ended : (ls : List Text) → AllPlain ls → lines (ended ls) ≡ ls
unfolding lines ended
lines-ended [] h = refl
lines-ended (l ∷ ls) h = lines-append l (ended ls) h.0 ∙ ap (λ r. l ∷ r) (lines-ended ls h.1)

digit-plain : (b : ℕ) → is_digit b ≡ true → plain b ≡ true
unfolding plain is_digit ◌and◌
digit-plain b h =
    let i : 48 ≤ b = leb-true 48 b (and_left (leb 48 b) (leb b 57) h) in
    rw (ne_eqb b LF (omega arith), ne_eqb b CR (omega arith))

digits-plain : (l : Text) → all is_digit l ≡ true → all plain l ≡ true
unfolding all
digits-plain [] h = refl
digits-plain (b ∷ l) h = and_both (plain b) (all plain l) (digit-plain b (and_left (is_digit b) (all is_digit l) h)) (digits-plain l (and_right (is_digit b) (all is_digit l) h))

pub number-plain : (n : ℕ) → all plain (decimal n) ≡ true
number-plain n = digits-plain (decimal n) (decimal-digits n)

pub all_cat : (q : ℕ → Bool) (a b : Text) → all q (a ++ b) ≡ all q a and all q b
unfolding all ◌and◌
all_cat q [] b = refl
all_cat q (c ∷ a) b = rw (all_cat q a b) (sym (and_assoc (q c) (all q a) (all q b)))
