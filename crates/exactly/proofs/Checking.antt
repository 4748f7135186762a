-- The check, slots and reports answer by their rows in their order, and each refusal exactly by its row.
use mathlib.Core.Path.{◌≡◌, refl}
use mathlib.Core.List.{List}
use mathlib.Core.Logic.{◌↔◌}
use mathlib.Core.Option.{none, some}
use Prim.Native.Nat.{ℕ}
use lib.ListN.{length}
use Rattle.paper.specs.Basics.{or_else, elem, ◌and◌}
use Rattle.paper.specs.Yard.{crossings, after}
use Rattle.paper.specs.Order.{Order}
use Rattle.paper.specs.Docket.{Refusal, number, carried, yard_of, no_11}
use Rattle.paper.specs.Answers.{check, slots_refusal}
use Rattle.exactly.specs.First.{NoneOf, Given, distinct}
use Rattle.exactly.specs.Rows.{check_rows, slots_rows, mark_rows}
use Rattle.exactly.proofs.First.{after-it, exactly, nothing-exactly}
use Rattle.exactly.proofs.Six.{Refuses, six-reads}
use Rattle.exactly.proofs.Plans.{reads-8, reads-9, reads-10}
use Rattle.exactly.proofs.Marks.{reads-11}

module _ (o : Order) (crossed : List ℕ) where
  -- ## The check and slots

  pub check-reads : Refuses (check o crossed) (check_rows o crossed)
  unfolding check
  check-reads =
      after-it number carried (six-reads o (length crossed)) (λ _.
      after-it number carried (reads-9 (yard_of o) o.starts (crossings crossed)) (λ _.
      reads-10 o.goals (after o.starts (crossings crossed))))

  -- The check refuses exactly by the first of 1 to 6, 9, 10 that applies, and passes exactly if none does.
  pub check-refuses : (r : Refusal) → (check o crossed ≡ some r) ↔ Given (check_rows o crossed) (number r) (carried r)
  unfolding distinct elem ◌and◌
  check-refuses r = exactly number carried check-reads refl r

  pub check-passes : (check o crossed ≡ none) ↔ NoneOf (check_rows o crossed)
  check-passes = nothing-exactly number carried check-reads

  pub slots-reads : (lent : ℕ) → Refuses (slots_refusal o crossed lent) (slots_rows o crossed lent)
  unfolding slots_refusal
  slots-reads lent = after-it number carried check-reads (λ _. reads-8 lent (length crossed))

  pub slots-refuse : (lent : ℕ) (r : Refusal) → (slots_refusal o crossed lent ≡ some r)
      ↔ Given (slots_rows o crossed lent) (number r) (carried r)
  unfolding distinct elem ◌and◌
  slots-refuse lent r = exactly number carried (slots-reads lent) refl r

  pub slots-accept : (lent : ℕ) → (slots_refusal o crossed lent ≡ none) ↔ NoneOf (slots_rows o crossed lent)
  slots-accept lent = nothing-exactly number carried (slots-reads lent)

  module _ (marks : List ℕ) where
    -- what every function that has marks tests first
    pub marks-read : Refuses (or_else (check o crossed) (no_11 (crossings crossed) marks)) (mark_rows o crossed marks)
    marks-read = after-it number carried check-reads (λ _. reads-11 (crossings crossed) marks)
