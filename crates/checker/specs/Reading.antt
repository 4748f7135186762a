-- How the check's answer reads as the paper's, and what is left of it once 1 to 6 have passed.
-- Assumes nothing.
use Rattle.std.specs.Prelude.{◌≡◌, List, ℕ, ◌≤◌, ◌<◌, length, get_or, Err, Ok}
use Rattle.std.proofs.Math.Option.{Option, none, some}
use Rattle.paper.specs.Basics.{or_else, ◌>>=◌}
use Rattle.paper.specs.Yard.{Yard, Placement, Crossing, after}
use Rattle.paper.specs.Docket.{Refusal, illegal, no_9, no_10}
use Rattle.paper.proofs.Playing.{Good}
use Rattle.docket.specs.Reading.{refusal_of}
use Rattle.words.specs.Sets.{span}
use Rattle.yard.specs.Table.{Table}
use Rattle.checker.specs.Checked.{Checked}

abbrev pub checked_of : Checked → Option Refusal
checked_of (Ok tt) = none
checked_of (Err r) = some (refusal_of r)

-- once 1 to 6 have passed: each carrier has a start and a goal, there are no more of them than bays, and every bay has its place in the table
pub record Placed (starts goals : Placement) : Type 0 where
  pub as_many : length starts ≡ length goals
  pub few : length goals ≤ span
  pub starts_inside : (c : ℕ) → c < length starts → get_or starts c 0 < span
  pub goals_inside : (c : ℕ) → c < length goals → get_or goals c 0 < span

-- 9 with the first illegal name found, or 10 at the placement that was reached
abbrev pub nine_ten : Option ℕ → Placement → Placement → Option Refusal
nine_ten found at goals = or_else (found >>= λ i. some (illegal i)) (no_10 goals at)

-- the answer is 9 or 10 or neither as the paper has it, for every yard whose table this is, with rows for its bays, and in which the starts are bays
abbrev pub NineTen : ℕ → List ℕ → Placement → Placement → List Crossing → Option Refusal → Type 0
NineTen rows table starts goals xs answer =
    (Y : Yard) → Table Y Y.bays table → Y.bays ≤ rows → Good Y starts → answer ≡ or_else (no_9 Y starts xs) (no_10 goals (after starts xs))
