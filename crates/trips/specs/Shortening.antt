-- What shortening answers, in which order it tests, and what it leaves in the lent list. It answers as planning does: a plan, or why there is none.
-- Assumes nothing.
use Rattle.std.specs.Prelude.{Bool, List, ℕ, eqb, length}
use Rattle.std.proofs.Math.Option.{Option}
use Rattle.paper.specs.Basics.{or_else, when, any}
use Rattle.paper.specs.Yard.{Crossing, crossings}
use Rattle.paper.specs.Order.{Order}
use Rattle.paper.specs.Docket.{Refusal, begun, no_8, no_11}
use Rattle.paper.specs.Answers.{Answer, accepted, unless, written, check}
use Rattle.trips.specs.Trips.{shorten}

-- "25 if any mark is 1"
unfoldable pub any_done : List ℕ → Bool
any_done marks = any (λ m. eqb m 1) marks

-- 25 begun: some crossing is done already
abbrev pub no_25 : List ℕ → Option Refusal
no_25 marks = when (any_done marks) begun

-- 8 for a lent list of so many places
unfoldable pub into_room : ℕ → List Crossing → Answer
into_room lent xs = unless (no_8 lent (length xs)) (accepted xs)

module _ (o : Order) (plan marks : List ℕ) where
  -- "as the check, 11, then 25 if any mark is 1, then 8"
  unfoldable pub shorten_refusal : ℕ → Option Refusal
  shorten_refusal lent =
      or_else (or_else (check o plan) (no_11 (crossings plan) marks))
      (or_else (no_25 marks)
      (no_8 lent (length (shorten (crossings plan)))))

  unfoldable pub shortening : ℕ → Answer
  shortening lent = unless (shorten_refusal lent) (accepted (shorten (crossings plan)))

  -- Acceptance writes the shorter plan and nothing beyond its length; a refusal changes nothing.
  abbrev pub shortening_end : List ℕ → List ℕ
  shortening_end lent = written (shortening (length lent)) lent
