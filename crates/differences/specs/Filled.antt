-- What is written for each carrier.
-- Assumes nothing.
use Rattle.std.specs.Prelude.{◌≡◌, List, ℕ, ◌<◌, ℤ, pos, ◌-ℤ◌, length, get_or}
use Rattle.paper.specs.Limits.{most_carriers}
use Rattle.paper.specs.Yard.{Carrier}

-- place by place the one count less the other
pub record FillSays (seconds firsts : List ℕ) (filled : List ℤ) : Type 0 where
  pub long : length filled ≡ most_carriers
  pub less : (c : Carrier) → c < most_carriers → get_or filled c (pos 0) ≡ pos (get_or seconds c 0) -ℤ pos (get_or firsts c 0)
