-- What is left where two carriers have traded places.
-- Assumes nothing.
use Rattle.std.specs.Prelude.{◌≡◌, List, ℕ, ◌≤◌, ◌<◌, length, get_or, set}
use Rattle.paper.specs.Procedure.{traded}
use Rattle.paper.specs.Yard.{Carrier, Placement}
use Rattle.words.specs.Sets.{span}

-- after r and s have traded places
abbrev pub placement_traded : Carrier → Carrier → Placement → Placement
placement_traded r s p = traded r s p

abbrev pub standing_traded : Carrier → Carrier → List ℕ → List ℕ → List ℕ
standing_traded r s p standing = set (set standing (get_or p r 0) s) (get_or p s 0) r

-- ## What is asked, what is said

-- r and s stand at bays that are shown
pub record TradeAsks (r s : Carrier) (p standing : List ℕ) : Type 0 where
  pub first : r < length p
  pub second : s < length p
  pub few : length p ≤ span
  pub first_shown : get_or p r 0 < length standing
  pub second_shown : get_or p s 0 < length standing

-- they have traded places
pub record TradeSays (r s : Carrier) (p standing p' standing' : List ℕ) : Type 0 where
  pub moved : p' ≡ placement_traded r s p
  pub stands : standing' ≡ standing_traded r s p standing
