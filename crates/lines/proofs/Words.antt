-- A text is the word if it is as long and begins with it; the first bytes are the word if the text begins with it.
use mathlib.Core.Path.{◌≡◌, refl, sym, ◌∙◌, ap}
use mathlib.Core.Bool.{true}
use mathlib.Core.List.{[], ◌∷◌}
use Prim.Native.Nat.{◌≤◌}
use native.Mathlib.Omega.{arith}
use lib.Dec.{eqb}
use lib.ListN.{length, take}
use Rattle.std.specs.Cmp.Lexicographic.{pointwise}
use Rattle.std.proofs.lemmas.Cmp.{nat_list_eq_equiv}
use Rattle.paper.specs.Basics.{◌and◌}
use Rattle.paper.specs.Text.{Text, same}
use Rattle.paper.proofs.Tests.{by_cases, and_right, not-both}
use Rattle.lines.specs.Lines.{begins}

-- bytes compared pair by pair are compared as `same` does
pub same-pairs : (l w : Text) → pointwise eqb l w ≡ same l w
unfolding same ◌and◌
same-pairs [] [] = refl
same-pairs [] (c ∷ w) = refl
same-pairs (b ∷ l) [] = refl
same-pairs (b ∷ l) (c ∷ w) = by_cases (eqb b c) (λ e. rw e (same-pairs l w)) (λ e. rw e)

pub begins-take : (w l : Text) → begins w l ≡ same (take (length w) l) w
unfolding begins same
begins-take [] l = refl
begins-take (c ∷ w) [] = refl
begins-take (c ∷ w) (b ∷ l) = ap (λ q. eqb b c and q) (begins-take w l)

-- a text that begins with a word is as long
pub begins-long : (w l : Text) → begins w l ≡ true → length w ≤ length l
unfolding begins
begins-long [] l h = omega arith
begins-long (c ∷ w) [] h = not-both h refl
begins-long (c ∷ w) (b ∷ l) h = let i = begins-long w l (and_right (eqb b c) (begins w l) h) in omega arith

pub begins-pairs : (w l : Text) → pointwise eqb w (take (length w) l) ≡ begins w l
begins-pairs w l =
    nat_list_eq_equiv.symm w (take (length w) l) ∙ same-pairs (take (length w) l) w ∙ sym (begins-take w l)
