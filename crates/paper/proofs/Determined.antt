-- Any two answers of the code that a statement allows are equal: it says which definition the answer reads as, and the reading tells any two answers apart. The
-- crates above cite this for their functions. A refusal is told by its number and what it carries.
use Rattle.std.specs.Prelude.{if◌then◌else◌}
use mathlib.Core.Path.{◌≡◌, refl, sym, ◌∙◌, ap, ap₂}
use mathlib.Core.Bool.{true, false}
use mathlib.Core.List.{List, [], ◌∷◌}
use mathlib.Core.Option.{Option, get_or}
use Prim.Native.Nat.{ℕ}
use lib.Dec.{eqb}
use Rattle.paper.specs.Basics.{elem}
use Rattle.paper.specs.Docket.{Refusal, size, rail, apart, crowd, start, goal, stopped, room, illegal, missed, mismarked, unknown, early, bad_map, bad_scenario, bad_survey, ended, long_piece, disagrees, edition, begun, bad_plan, bad_reports, number, carried}
use Rattle.paper.proofs.Tests.{not-both}

-- a statement of an answer and of what a lent list holds at the end allows one of each
abbrev pub Determined : {A B : Type 0} → (A → B → Type 0) → Type 0
Determined {A} {B} S = (a a' : A) (b b' : B) → S a b → S a' b' → (a ≡ a') × (b ≡ b')

-- a reading of the code's answers that tells any two apart
abbrev pub Telling : {A A' : Type 0} → (A → A') → Type 0
Telling {A} {A'} read = (a a' : A) → read a ≡ read a' → a ≡ a'

-- it does where the answer can be had back
pub telling-by : {A A' : Type 0} (read : A → A') (back : A' → A) → ((a : A) → back (read a) ≡ a) → Telling read
telling-by read back h a a' e = sym (h a) ∙ ap back e ∙ h a'

pub determined-by : {A A' B : Type 0} (read : A → A') → Telling read → (x : A') (y : B) → Determined (λ (a : A) (b : B). (read a ≡ x) × (b ≡ y))
determined-by read tells x y a a' b b' s t = (tells a a' (s.0 ∙ sym t.0), s.1 ∙ sym t.1)

-- the refusal of a number and what it carries
from : ℕ → ℕ → Refusal
from n v =
    if eqb n 1 then size
    else if eqb n 2 then rail v
    else if eqb n 3 then apart v
    else if eqb n 4 then crowd
    else if eqb n 5 then start v
    else if eqb n 6 then goal v
    else if eqb n 7 then stopped v
    else if eqb n 8 then room v
    else if eqb n 9 then illegal v
    else if eqb n 10 then missed v
    else if eqb n 11 then mismarked
    else if eqb n 12 then unknown
    else if eqb n 13 then early v
    else if eqb n 14 then bad_map v
    else if eqb n 15 then bad_scenario v
    else if eqb n 16 then bad_survey v
    else if eqb n 17 then ended
    else if eqb n 18 then long_piece
    else if eqb n 19 then disagrees
    else if eqb n 20 then edition
    else if eqb n 25 then begun
    else if eqb n 26 then bad_plan v
    else bad_reports v

-- the numbers of answers that are no refusals: 0 for acceptance, 100 for "already"
abbrev own : List ℕ
own = 0 ∷ 100 ∷ []

-- the table row by row: a refusal is had back from its number and what it carries, and no answer of another kind has its number
rows : (r : Refusal) → (from (number r) (get_or (carried r) 0) ≡ r) × (elem (number r) own ≡ false)
unfolding from elem
rows size = (refl, refl)
rows (rail i) = (refl, refl)
rows (apart b) = (refl, refl)
rows crowd = (refl, refl)
rows (start c) = (refl, refl)
rows (goal c) = (refl, refl)
rows (stopped c) = (refl, refl)
rows (room l) = (refl, refl)
rows (illegal i) = (refl, refl)
rows (missed c) = (refl, refl)
rows mismarked = (refl, refl)
rows unknown = (refl, refl)
rows (early e) = (refl, refl)
rows (bad_map l) = (refl, refl)
rows (bad_scenario l) = (refl, refl)
rows (bad_survey l) = (refl, refl)
rows ended = (refl, refl)
rows long_piece = (refl, refl)
rows disagrees = (refl, refl)
rows edition = (refl, refl)
rows begun = (refl, refl)
rows (bad_plan l) = (refl, refl)
rows (bad_reports l) = (refl, refl)

-- A refusal is known by its number and what it carries, told as 0 where that is nothing.
pub refusals-told-apart : (r q : Refusal) → number r ≡ number q → get_or (carried r) 0 ≡ get_or (carried q) 0 → r ≡ q
refusals-told-apart r q e f = sym (rows r).0 ∙ ap₂ from e f ∙ (rows q).0

pub docket-tells : (r q : Refusal) → number r ≡ number q → carried r ≡ carried q → r ≡ q
docket-tells r q e f = refusals-told-apart r q e (ap (λ c. get_or c 0) f)

pub not-in-table : (k : ℕ) → elem k own ≡ true → (r : Refusal) → number r ≡ k → ⊥
not-in-table k h r e = not-both (ap (λ j. elem j own) e ∙ h) (rows r).1
