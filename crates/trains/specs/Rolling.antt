-- What it means to do each slot's crossings all at once. No order inside a slot is used.
-- Assumes nothing.
use Rattle.std.specs.Prelude.{◌≡◌, List, ℕ, suc, ◌<◌, length, get_or}
use Rattle.paper.specs.Yard.{Carrier, Placement, Crossing, bay_of, named}

-- The crossings of slot t, all at once: each starts from the placement p before the slot, in which its carrier stands at `from`; in the
-- placement p' after the slot its carrier stands at `to`; a carrier with no crossing in the slot has stayed.
pub record AtOnce (xs : List Crossing) (slots : List ℕ) (t : ℕ) (p p' : Placement) : Type 0 where
  pub same_carriers : length p' ≡ length p
  pub known : (i : ℕ) → i < length xs → get_or slots i 0 ≡ t → (named xs i).carrier < length p
  pub starts : (i : ℕ) → i < length xs → get_or slots i 0 ≡ t → bay_of p (named xs i).carrier ≡ (named xs i).from
  pub ends : (i : ℕ) → i < length xs → get_or slots i 0 ≡ t → bay_of p' (named xs i).carrier ≡ (named xs i).to
  pub stays : (c : Carrier) → ((i : ℕ) → i < length xs → get_or slots i 0 ≡ t → (named xs i).carrier ≡ c → ⊥) → bay_of p' c ≡ bay_of p c

-- A plan rolled slot by slot from the start: `p t` is the placement after slot t.
pub record Rolled (xs : List Crossing) (slots : List ℕ) (start : Placement) (p : ℕ → Placement) : Type 0 where
  pub begins : p 0 ≡ start
  pub at_once : (t : ℕ) → AtOnce xs slots (suc t) (p t) (p (suc t))
