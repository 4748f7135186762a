-- What slots by an edition answer, in which order they test, and what they leave in the lent list.
-- Assumes nothing.
use Rattle.std.specs.Prelude.{Bool, not, List, ◌++◌, ℕ, eqb, length, drop, if◌then◌else◌}
use Rattle.std.proofs.Math.Option.{Option}
use Rattle.paper.specs.Basics.{if_some◌then◌else◌, or_else, when, ◌or◌}
use Rattle.paper.specs.Yard.{Crossing, crossings}
use Rattle.paper.specs.Order.{Order}
use Rattle.paper.specs.Docket.{Refusal, edition, Verdict, unless_denied}
use Rattle.paper.specs.Dependence.{slots}
use Rattle.paper.specs.Answers.{slots_refusal}
use Rattle.trains.specs.Slots.{train_slots}

-- "The caller says which edition, 1 or 2"
unfoldable pub is_known : ℕ → Bool
is_known e = eqb e 1 or eqb e 2

abbrev pub no_20 : ℕ → Option Refusal
no_20 e = when (not (is_known e)) edition

-- the slots by an edition
unfoldable pub slots_by : ℕ → List Crossing → List ℕ
slots_by e xs = if eqb e 2 then train_slots xs else slots xs

module _ (o : Order) (plan : List ℕ) where
  -- "20, unknown edition, tested before all others"; then as slots
  unfoldable pub slots_of_refusal : ℕ → ℕ → Option Refusal
  slots_of_refusal e lent = or_else (no_20 e) (slots_refusal o plan lent)

  -- the length written is the plan's
  abbrev pub slots_of : ℕ → ℕ → Verdict
  slots_of e lent = unless_denied (slots_of_refusal e lent) (length plan)

  -- acceptance writes the slots and nothing beyond their length; a refusal changes nothing
  unfoldable pub slots_of_end : ℕ → List ℕ → List ℕ
  slots_of_end e lent =
      if_some slots_of_refusal e (length lent) then (λ r. lent) else (slots_by e (crossings plan) ++ drop (length plan) lent)
