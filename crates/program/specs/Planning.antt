-- What the planner leaves for the program, and what shortening leaves of it.
-- Assumes nothing.
use Rattle.std.specs.Prelude.{◌≡◌, List, ℕ, length, take, Err, Ok}
use Rattle.std.proofs.Math.Option.{none}
use Rattle.paper.specs.Order.{Order}
use Rattle.paper.specs.Answers.{plan, check}
use Rattle.paper.specs.Program.{program_room}
use Rattle.docket.specs.Verdict.{Verdict}
use Rattle.planner.specs.Planned.{Planned}
use Rattle.print_room.specs.Printout.{Within, Handed}
use Rattle.print_room.specs.Short.{short_answer}

-- the planner's answer as a verdict
abbrev pub verdict_in : Planned → Verdict
verdict_in (Ok m) = Ok m
verdict_in (Err r) = Err r

module _ (o : Order) where
  -- what the planner left in the list that the program lends
  pub record PlannedIn (r : Verdict) (list : List ℕ) : Type 0 where
    pub handed : Handed r list (plan o program_room)
    pub within : Within r list
    pub passes : (m : ℕ) → r ≡ Ok m → check o (take m list) ≡ none
    pub sized : length list ≡ program_room

  -- and what is left of it
  pub record ShortIn (r : Verdict) (list : List ℕ) : Type 0 where
    pub handed : Handed r list (short_answer (plan o program_room))
    pub within : Within r list
