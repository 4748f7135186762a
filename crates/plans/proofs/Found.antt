-- What the lookup's answer tells of the name: a crossing is that of a name in the plan, none is a name that is not.
use mathlib.Core.Path.{◌≡◌, sym, ◌∙◌}
use mathlib.Core.List.{List}
use mathlib.Core.Option.{none, some}
use Prim.Native.Nat.{ℕ, ◌<◌, ◌≤◌}
use lib.Dec.{leb}
use lib.ListN.{length}
use borrow.Author.Tests.{leb-true, leb-false}
use Rattle.paper.specs.Yard.{Crossing, named}
use Rattle.paper.proofs.Tests.{by_cases, never-some}
use Rattle.plans.specs.Reading.{found_in}

pub found_some : (xs : List Crossing) (name : ℕ) (x : Crossing) → some x ≡ found_in xs name → (name < length xs) × (x ≡ named xs name)
unfolding found_in
found_some xs name x h =
    by_cases (leb (length xs) name)
    (λ l. never-some x (sym (h ∙ rw l)))
    (λ l. let k : some x ≡ some (named xs name) = h ∙ rw l in (leb-false _ _ l, cc))

pub found_none : (xs : List Crossing) (name : ℕ) → none ≡ found_in xs name → length xs ≤ name
unfolding found_in
found_none xs name h =
    by_cases (leb (length xs) name)
    (λ l. leb-true _ _ l)
    (λ l. never-some (named xs name) (h ∙ rw l))
