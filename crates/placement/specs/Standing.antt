-- Where the carriers stand: "The placement is worked out from the start and the done crossings in plan order".
-- Assumes nothing.
use Rattle.std.specs.Prelude.{◌≡◌, List, ◌++◌, ℕ, ltb, length, drop}
use Rattle.std.proofs.Math.Option.{Option}
use Rattle.paper.specs.Basics.{or_else, when}
use Rattle.paper.specs.Yard.{Bay, crossings}
use Rattle.paper.specs.Order.{Order}
use Rattle.paper.specs.Dependence.{placement_by}
use Rattle.paper.specs.Docket.{Refusal, room, no_11, Verdict, granted, denied, unless_denied}
use Rattle.paper.specs.Answers.{check}
use Rattle.docket.specs.Reading.{verdict_of}
use Rattle.docket.specs.Verdict.{Verdict as Held}

module _ (o : Order) (plan marks : List ℕ) where
  -- a report's refusals up to 11, then 8 carrying the number of carriers, if the lent list, of such a length, is shorter
  unfoldable pub refusal : ℕ → Option Refusal
  refusal lent =
      or_else (check o plan)
      (or_else (no_11 (crossings plan) marks)
      (when (ltb lent (length o.starts)) (room (length o.starts))))

  -- granted with the number of carriers
  unfoldable pub standing : ℕ → Verdict
  standing lent = unless_denied (refusal lent) (length o.starts)

  -- what stands in the lent list at the end: the placement in its first places; a refusal leaves it as it was
  abbrev pub standing_end : List Bay → Verdict → List Bay
  standing_end lent (granted k) = placement_by o.starts (crossings plan) marks ++ drop (length o.starts) lent
  standing_end lent (denied r) = lent

  pub record PlacementSays (lent : List Bay) (answer : Held) (lent' : List Bay) : Type 0 where
    pub answers : verdict_of answer ≡ standing (length lent)
    pub leaves : lent' ≡ standing_end lent (standing (length lent))
