-- The derived `==` tests what the definitions test: of records and lines all the fields, of lists place by place.
use mathlib.Core.Path.{◌≡◌, refl, ◌∙◌, ap₂}
use mathlib.Core.Bool.{Bool, true, false, ◌&&◌}
use mathlib.Core.List.{List, [], ◌∷◌}
use Prim.Native.Nat.{ℕ}
use lib.Dec.{eqb}
use lib.Pointwise.{pointwise}
use Rattle.paper.specs.Basics.{◌and◌}
use Rattle.bills.specs.Answering.{same_numbers, same_record, same_lines}
use Rattle.bills.specs.declared.Record.{Record}
use Rattle.bills.specs.declared.Line.{Line}

opened : (r s : Bool) → (r && s) ≡ (r and s)
unfolding ◌and◌
opened true s = refl
opened false s = refl

both : {p q r s : Bool} → p ≡ r → q ≡ s → (p && q) ≡ (r and s)
both {p} {q} {r} {s} e f = ap₂ (λ x y. x && y) e f ∙ opened r s

numbers-tested : (l m : List ℕ) → pointwise eqb l m ≡ same_numbers l m
unfolding same_numbers
numbers-tested [] [] = refl
numbers-tested [] (b ∷ m) = refl
numbers-tested (a ∷ l) [] = refl
numbers-tested (a ∷ l) (b ∷ m) = both refl (numbers-tested l m)

pub record-tested : (a b : Record) → (pointwise eqb a.at b.at && (eqb a.done b.done && eqb a.highest b.highest)) ≡ same_record a b
record-tested a b = both (numbers-tested a.at b.at) (both refl refl)

-- where E is the derived `==` of lines
pub lines-tested : (E : Line → Line → Bool) → ((a b : Line) → E a b ≡ (eqb a.carrier b.carrier && (eqb a.billed b.billed && eqb a.last b.last)))
    → (l m : List Line) → pointwise E l m ≡ same_lines l m
unfolding same_lines
lines-tested E e [] [] = refl
lines-tested E e [] (b ∷ m) = refl
lines-tested E e (a ∷ l) [] = refl
lines-tested E e (a ∷ l) (b ∷ m) = both (e a b ∙ both refl (both refl refl)) (lines-tested E e l m)
