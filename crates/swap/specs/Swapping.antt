-- A swap in code: which bays are to spare, and what is asked and said.
-- Assumes nothing.
use Rattle.std.specs.Prelude.{◌≡◌, List, [], ◌∷◌, ℕ, ◌+◌, ◌*◌, ◌≤◌, ◌<◌, length, Some}
use Rattle.paper.specs.Procedure.{only, clear_once, swap}
use Rattle.paper.specs.Yard.{Bay, Carrier}
use Rattle.words.specs.Sets.{words, span}
use Rattle.docket.specs.declared.Bay.{Bay as Numbered}
use Rattle.moving.specs.Bounds.{swap_most}
use Rattle.moving.specs.Placed.{Placed}
use Rattle.acting.specs.Acting.{Tabled, nothing, Within, Proceeds}
use Rattle.acting.specs.Tried.{Tried}
use Rattle.exchange.specs.Exchanging.{Noted, exchanges}
use Rattle.seek.specs.FromBelow.{Beside}
use Rattle.trade.specs.Trading.{TradeSays}
use Rattle.swap.specs.declared.Exchange.{Exchange}
use Rattle.swap.specs.Spare.{Spare}

-- ## At r's own bay

-- x and y are the lowest empty neighbours of u other than w: clearing around u keeps them, and nobody moves
pub record TwoSpare (table empty : List ℕ) (u w x y : Bay) : Type 0 where
  pub rising : x < y
  pub kept : {n : ℕ} (t : Tabled n table) {p standing : List ℕ} → n ≤ span → u < n → Placed n p standing empty
      → clear_once t.yard u w p ≡ record { made = only []; kept = x ∷ y ∷ [] }

-- ## What is asked, what is said

-- u has its row in the table
pub record SpareAsks (table empty : List ℕ) (u w : Bay) : Type 0 where
  pub row : u * words + words ≤ length table
  pub low : w < span
  pub empty_size : length empty ≡ words

pub record SpareSays (table empty : List ℕ) (u w : Bay) (r : Spare) : Type 0 where
  pub both : (x y : Numbered) → r ≡ Some (x, y) → TwoSpare table empty u w x.0 y.0

-- the exchange is noted, and the two have traded places
pub record SwapBesideSays (r s : Carrier) (bays : Exchange) (p standing out p' standing' out' : List ℕ) (m : ℕ) : Type 0 where
  pub traded : TradeSays r s p standing p' standing'
  pub noted : Noted (exchanges r s bays.junction.0 bays.behind.0 bays.lower.0 bays.higher.0) out 0 out' m

-- the paper's swap
pub record SwapSays (r s : Carrier) (table p standing out p' standing' empty' out' : List ℕ) (z : Tried) : Type 0 where
  pub few : Within nothing swap_most z
  pub proceeds : (t : Tabled (length standing) table) → Beside t.yard r s p
      → Proceeds (swap t.yard r s p) (length standing) p out nothing p' standing' empty' out' z
