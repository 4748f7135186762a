-- Lines laid over the first places of others, one line at a time: one more line is one `set`, and once as many are laid as there are lines or places, all
-- are laid. What is laid stands at its place.
use mathlib.Core.Path.{◌≡◌, refl, sym, ◌∙◌, ap}
use mathlib.Core.List.{List, [], ◌∷◌, ◌++◌}
use Prim.Native.Nat.{ℕ, zero, suc, ◌<◌, ◌≤◌, min}
use native.Mathlib.Omega.{arith}
use native.Mathlib.Nat.{min-zero, zero-min, suc-min-suc}
use lib.ListN.{length, get_or, set, take, drop, length-replicate}
use Rattle.paper.specs.Limits.{most_bays}
use Rattle.bills.specs.Billing.{no_line}
use Rattle.bills.specs.declared.Line.{Line}
use Rattle.held_lines.specs.Lines.{no_lines, held_of, top_of, line_at, laid, gathered}

laid-one-more : (i : ℕ) (ls os : List Line) (d : Line) → i < length ls → set (laid (take i ls) os) i (get_or ls i d) ≡ laid (take (suc i) ls) os
unfolding laid
laid-one-more i [] os d l = absurd (omega arith)
laid-one-more zero (x ∷ ls) [] d l = refl
laid-one-more zero (x ∷ ls) (o ∷ os) d l = refl
laid-one-more (suc i) (x ∷ ls) [] d l = refl
laid-one-more (suc i) (x ∷ ls) (o ∷ os) d l = ap {B = List Line} (λ r. x ∷ r) (laid-one-more i ls os d (omega arith))

laid-all : (ls os : List Line) → laid (take (min (length ls) (length os)) ls) os ≡ laid ls os
unfolding laid
laid-all [] os = ap (λ (k : ℕ). laid (take k []) os) (zero-min (length os))
laid-all (x ∷ ls) [] = ap (λ (k : ℕ). laid (take k (x ∷ ls)) []) (min-zero (suc (length ls)))
laid-all (x ∷ ls) (o ∷ os) = ap (λ (k : ℕ). laid (take k (x ∷ ls)) (o ∷ os)) (suc-min-suc (length ls) (length os)) ∙ ap {B = List Line} (λ r. x ∷ r) (laid-all ls os)

laid-copied : (ls os : List Line) → take (min (length ls) (length os)) ls ++ drop (min (length ls) (length os)) os ≡ laid ls os
unfolding laid
laid-copied [] os = rw (zero-min (length os))
laid-copied (x ∷ ls) [] = rw (min-zero (suc (length ls)))
laid-copied (x ∷ ls) (o ∷ os) = rw (suc-min-suc (length ls) (length os)) (ap {B = List Line} (λ r. x ∷ r) (laid-copied ls os))

laid-long : (ls os : List Line) → length (laid ls os) ≡ length os
unfolding laid
laid-long [] os = refl
laid-long (x ∷ ls) [] = refl
laid-long (x ∷ ls) (o ∷ os) = ap suc (laid-long ls os)

laid-at : (ls os : List Line) (i : ℕ) (d : Line) → i < length ls → i < length os → get_or (laid ls os) i d ≡ get_or ls i d
unfolding laid
laid-at [] os i d l k = absurd (omega arith)
laid-at (x ∷ ls) [] i d l k = absurd (omega arith)
laid-at (x ∷ ls) (o ∷ os) zero d l k = refl
laid-at (x ∷ ls) (o ∷ os) (suc i) d l k = laid-at ls os i d (omega arith) (omega arith)

laid-taken : (ls os : List Line) → length ls ≤ length os → take (length ls) (laid ls os) ≡ ls
unfolding laid
laid-taken [] os h = refl
laid-taken (x ∷ ls) [] h = absurd (omega arith)
laid-taken (x ∷ ls) (o ∷ os) h = ap {B = List Line} (λ r. x ∷ r) (laid-taken ls os (omega arith))

-- the held lines once the first i are read
unfoldable pub read_to : List Line → ℕ → List Line
read_to ls i = laid (take i ls) no_lines

pub none_read : (ls : List Line) → no_lines ≡ read_to ls 0
unfolding read_to laid
none_read ls = refl

pub one-more-read : (ls : List Line) (i : ℕ) (d : Line) → i < length ls → set (read_to ls i) i (get_or ls i d) ≡ read_to ls (suc i)
unfolding read_to
one-more-read ls i d l = laid-one-more i ls no_lines d l

pub all_read : (ls : List Line) → held_of (length ls) (read_to ls (top_of (length ls))) ≡ gathered ls
unfolding read_to
all_read ls = ap (held_of (length ls)) (ap (λ (k : ℕ). laid (take (min (length ls) k) ls) no_lines) (sym (length-replicate most_bays no_line)) ∙ laid-all ls no_lines)

-- the first lines copied over as many of the empty ones
pub all_copied : (ls : List Line) → held_of (length ls) (take (top_of (length ls)) ls ++ drop (top_of (length ls)) no_lines) ≡ gathered ls
all_copied ls = ap (held_of (length ls)) (rw length-replicate at (laid-copied ls no_lines))

pub held-long : (ls : List Line) → length (gathered ls).lines ≡ most_bays
held-long ls = laid-long ls no_lines ∙ length-replicate most_bays no_line

-- a line that is held stands at its place
pub held_at : (ls : List Line) (i : ℕ) → i < length ls → i < most_bays → line_at (gathered ls) i ≡ get_or ls i no_line
held_at ls i h k = laid-at ls no_lines i no_line h (rw length-replicate k)

-- and where all are held, the first of what is held are the lines
pub held-taken : (ls : List Line) → length ls ≤ most_bays → take (length ls) (gathered ls).lines ≡ ls
held-taken ls h = laid-taken ls no_lines (rw length-replicate h)
