-- What settling asks and says of the set.
-- Assumes nothing.
use Rattle.std.specs.Prelude.{◌≡◌, List, ℕ, ◌<◌, length}
use Rattle.paper.specs.Procedure.{trade}
use Rattle.paper.specs.Yard.{Bay}
use Rattle.words.specs.Sets.{mem, words, span}

-- the set may have both bays
pub record SettleAsks (settled : List ℕ) (u w : Bay) : Type 0 where
  pub size : length settled ≡ words
  pub from_low : u < span
  pub to_low : w < span

-- who stood at u is at w now, and the other way round
abbrev pub SettleSays : (settled : List ℕ) → (u w : Bay) → (settled' : List ℕ) → Type 0
SettleSays settled u w settled' = (b : ℕ) → mem settled' b ≡ mem settled (trade u w b)
