-- What a caller learns from the answer of vacating: each variant says what the paper's vacate gave, and what was played.
-- Assumes nothing.
use mathlib.Core.Path.{◌≡◌, sym, ◌∙◌}
use mathlib.Core.List.{List}
use mathlib.Core.Option.{none, some}
use Prim.Native.Nat.{ℕ}
use lib.ListN.{length}
use Rattle.paper.specs.Yard.{Bay, Crossing}
use Rattle.paper.proofs.Tests.{none_from, some-from}
use Rattle.rings.specs.Search.{Shown}
use Rattle.moving.specs.Placed.{Played}
use Rattle.vacate.specs.Answer.{Vacates, vacating, count_after}
use Rattle.vacate.specs.declared.Vacated.{Vacated}
use Rattle.vacate.specs.declared.Vacated.TheVariants.{Failed}

module _ {n : ℕ} {table held : List ℕ} {s : Shown n table held} {x : Bay} {p standing empty out p' standing' empty' out' : List ℕ} where
  pub answered-failed : Vacates s x p standing empty out p' standing' empty' out' Failed → vacating s x p standing empty out ≡ none
  answered-failed v = none_from (λ xs. length xs) (vacating s x p standing empty out) (sym v.counts)

  -- the crossings that were played, up to the count that the answer carries
  pub answered-count : {r : Vacated} {m : ℕ} → Vacates s x p standing empty out p' standing' empty' out' r → count_after r ≡ some m
      → (xs : List Crossing) × (vacating s x p standing empty out ≡ some xs) × Played xs n p p' standing' empty' out 0 out' m
  answered-count v c =
      let w = some-from (λ xs. length xs) (vacating s x p standing empty out) (sym v.counts ∙ c) in
      (w.0, w.1, rw w.2 at (v.acted.plays w.0 w.1))
