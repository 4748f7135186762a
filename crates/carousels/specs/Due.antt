-- Where the procedure stands when a carrier's turn comes on a carousel.
-- Assumes nothing.
use Rattle.std.specs.Prelude.{◌≡◌, ◌<◌, length}
use Rattle.paper.specs.Yard.{Carrier, Yard, Placement, bay_of}
use Rattle.paper.proofs.Playing.{Good}
use Rattle.carousels.specs.Leads.{Leads}

-- It is r's turn at p: those below r are home, and some legal list still leads to the goals.
pub record Due (Y : Yard) (goals : Placement) (r : Carrier) (p : Placement) : Type 0 where
  pub good : Good Y p
  pub turn : r < length p
  pub home : (c : Carrier) → c < r → bay_of p c ≡ bay_of goals c
  pub leads : Leads Y p goals
