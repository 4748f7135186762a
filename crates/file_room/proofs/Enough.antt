-- The first bytes of a file decide what it reads as, once they are more than the longest good file has: a line that is cut off there is too
-- long already, and so is the whole line. So a program reads that many bytes of a file of any length and no more.
use mathlib.Core.Path.{◌≡◌, refl, sym, ◌∙◌, ap}
use mathlib.Core.Bool.{true, false}
use mathlib.Core.List.{List, [], ◌∷◌, ◌++◌}
use mathlib.Core.Option.{Option, some}
use Prim.Native.Nat.{ℕ, zero, suc, ◌+◌, ◌-◌, ◌≤◌, ◌<◌}
use native.Mathlib.Omega.{arith}
use lib.Dec.{eqb, ltb}
use lib.ListN.{length, take, length-append}
use lib.Seq.{take_all, take-append-le, take-append-add, length-take-le}
use borrow.Author.Tests.{ltb-true, ltb-false, eqb-true}
use Rattle.paper.specs.Basics.{◌and◌}
use Rattle.paper.specs.Text.{Text, LF, CR, lines, all, Read, bad_line, read_lines}
use Rattle.paper.proofs.Tests.{by_cases, by-option}
use Rattle.lines.specs.Lines.{no_lf}
use Rattle.lines.proofs.Cut.{chop, lines_cut, lines-last, first_plain, rest_plain}

-- ## A text is one line, or a line, its end and the rest
data Cut (t : Text) : Type 0 where
  one : no_lf t ≡ true → Cut t
  more : (l rest : Text) → no_lf l ≡ true → t ≡ l ++ LF ∷ rest → Cut t

plain-none : no_lf [] ≡ true
unfolding no_lf all
plain-none = refl

plain-cons : (b : ℕ) (l : Text) → eqb b LF ≡ false → no_lf l ≡ true → no_lf (b ∷ l) ≡ true
unfolding no_lf all ◌and◌
plain-cons b l e h = rw (e, h)

cut-cons : (b : ℕ) (t : Text) → eqb b LF ≡ false → Cut t → Cut (b ∷ t)
cut-cons b t e (one h) = one (plain-cons b t e h)
cut-cons b t e (more l rest h q) = more (b ∷ l) rest (plain-cons b l e h) (ap (λ x. b ∷ x) q)

cut : (t : Text) → Cut t
cut [] = one plain-none
cut (b ∷ t) =
    by_cases (eqb b LF)
    (λ e. more [] t plain-none (ap (λ x. x ∷ t) (eqb-true b LF e)))
    (λ e. cut-cons b t e (cut t))

by-cut : {P : Type 0} {t : Text} → Cut t → (no_lf t ≡ true → P) → ((l rest : Text) → no_lf l ≡ true → t ≡ l ++ LF ∷ rest → P) → P
by-cut (one h) f g = f h
by-cut (more l rest h q) f g = g l rest h q

plain-take : (m : ℕ) (l : Text) → no_lf l ≡ true → no_lf (take m l) ≡ true
plain-take zero l h = plain-none
plain-take (suc m) [] h = plain-none
plain-take (suc m) (b ∷ l) h = plain-cons b (take m l) (first_plain b l h) (plain-take m l (rest_plain b l h))

chop-length : (l : Text) → length l ≤ length (chop l) + 1
unfolding chop
chop-length [] = omega arith
chop-length (b ∷ []) = by_cases (eqb b CR) (λ e. rw e (omega arith)) (λ e. rw e (omega arith))
chop-length (b ∷ c ∷ l) = omega (arith, chop-length (c ∷ l))

lines-one : (l : Text) → 0 < length l → no_lf l ≡ true → lines l ≡ l ∷ []
lines-one [] h p = absurd (omega arith)
lines-one (b ∷ l) h p = lines-last b l p

-- ## Any layout whose lines have a most: how many bytes, ends and all, can still follow what was read
module _ {A R : Type 0} (line : A → Text → Option A) (end : A → Option R) (most : A → ℕ)
    (bounded : (a : A) (l : Text) (a' : A) → line a l ≡ some a' → length l + 2 + most a' ≤ most a) where
  too_long : (n : ℕ) (a : A) (l : Text) (ls : List Text) → most a < length l + 2 → read_lines line end n a (l ∷ ls) ≡ bad_line n
  unfolding read_lines
  too_long n a l ls h =
      by-option (line a l)
      (λ e. rw e)
      (λ a' e. absurd (omega (arith, bounded a l a' e)))

  same_first : (n : ℕ) (a : A) (l : Text) (ls ms : List Text) → ((a' : A) → line a l ≡ some a' → read_lines line end (suc n) a' ls ≡ read_lines line end (suc n) a' ms)
      → read_lines line end n a (l ∷ ls) ≡ read_lines line end n a (l ∷ ms)
  unfolding read_lines
  same_first n a l ls ms h = by-option (line a l) (λ e. rw e) (λ a' e. rw e (h a' e))

  abbrev reading : ℕ → A → Text → Read R
  reading n a t = read_lines line end n a (lines t)

  -- a line that goes on past the first m bytes
  cut_off : (n : ℕ) (a : A) (l : Text) (m : ℕ) → most a < m → m ≤ length l → no_lf l ≡ true → reading n a (take m l) ≡ bad_line n
  cut_off n a l m h f p =
      let k = length-take-le m l f in
      ap (read_lines line end n a) (lines-one (take m l) (omega arith) (plain-take m l p)) ∙ too_long n a (take m l) [] (omega arith)

  decided-one : (n : ℕ) (a : A) (l : Text) (m : ℕ) → most a < m → no_lf l ≡ true → reading n a (take m l) ≡ reading n a l
  decided-one n a l m h p =
      by_cases (ltb m (length l))
      (λ e.
      let g = ltb-true m (length l) e in
      cut_off n a l m h (omega arith) p
      ∙ sym (ap (read_lines line end n a) (lines-one l (omega arith) p) ∙ too_long n a l [] (omega arith)))
      (λ e. ap (reading n a) (take_all m l (ltb-false m (length l) e)))

  -- where the rest is decided, so is all
  decided-more : (n : ℕ) (a : A) (l rest : Text) (m : ℕ) → most a < m → no_lf l ≡ true
      → ((a' : A) (k : ℕ) → most a' < k → reading (suc n) a' (take k rest) ≡ reading (suc n) a' rest)
      → reading n a (take m (l ++ LF ∷ rest)) ≡ reading n a (l ++ LF ∷ rest)
  decided-more n a l rest m h p ih =
      let c = chop-length l in
      by_cases (ltb (length l) m)
      (λ e.
      let g = ltb-true (length l) m e in
      let k : m ≡ length l + suc (m - length l - 1) = omega arith in
      ap (λ j. reading n a (take j (l ++ LF ∷ rest))) k
      ∙ ap (reading n a) (take-append-add l (LF ∷ rest) (suc (m - length l - 1)))
      ∙ ap (read_lines line end n a) (lines_cut l (take (m - length l - 1) rest) p)
      ∙ same_first n a (chop l) (lines (take (m - length l - 1) rest)) (lines rest)
      (λ a' q. ih a' (m - length l - 1) (omega (arith, bounded a (chop l) a' q)))
      ∙ sym (ap (read_lines line end n a) (lines_cut l rest p)))
      (λ e.
      let g = ltb-false (length l) m e in
      ap (reading n a) (take-append-le m l (LF ∷ rest) g)
      ∙ cut_off n a l m h g p
      ∙ sym (ap (read_lines line end n a) (lines_cut l rest p) ∙ too_long n a (chop l) (lines rest) (omega arith)))

  decided-by : (fuel n : ℕ) (a : A) (t : Text) (m : ℕ) → length t ≤ fuel → most a < m → reading n a (take m t) ≡ reading n a t
  decided-by zero n a t m f h = ap (reading n a) (take_all m t (omega arith))
  decided-by (suc fuel) n a t m f h =
      by-cut (cut t)
      (λ p. decided-one n a t m h p)
      (λ l rest p q.
      let s = ap length q ∙ length-append l (LF ∷ rest) in
      rw q (decided-more n a l rest m h p (λ a' k i. decided-by fuel (suc n) a' rest k (omega arith) i)))

  pub decided : (n : ℕ) (a : A) (t : Text) (m : ℕ) → most a < m → reading n a (take m t) ≡ reading n a t
  decided n a t m h = decided-by (length t) n a t m (omega arith) h
