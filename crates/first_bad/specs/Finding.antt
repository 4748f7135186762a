-- How what the code found reads as the paper's answer, and what the searches for the first bad one promise.
-- Assumes nothing.
use Rattle.std.specs.Prelude.{◌≡◌, true, List, [], ℕ, ◌<◌, None, Some}
use Rattle.std.proofs.Math.Option.{Option, none, some}
use Rattle.paper.specs.Basics.{first_bad}
use Rattle.paper.specs.Yard.{Rail, joined}
use Rattle.paper.specs.Docket.{rails_of, bad_rail}
use Rattle.words.specs.Sets.{mem_row, span}
use Rattle.first_bad.specs.Found.{Found}

abbrev pub found_of : Found → Option ℕ
found_of (Some i) = some i
found_of None = none

-- the place found is the one named, and lies below m
pub record Finds (named : Option ℕ) (m : ℕ) (r : Found) : Type 0 where
  pub which : found_of r ≡ named
  pub below : (i : ℕ) → r ≡ Some i → i < m

-- the table holds these rails between bays below n, and nothing else
pub record Laid (n : ℕ) (rails : List Rail) (table : List ℕ) : Type 0 where
  pub rows : (a b : ℕ) → b < span → mem_row table a b ≡ joined (record { bays = n; rails = rails }) a b
  pub inside : (a b : ℕ) → joined (record { bays = n; rails = rails }) a b ≡ true → (a < n) × (b < n)

-- the first bad rail; where there is none, all rails are laid
pub record Lays (n : ℕ) (ends table : List ℕ) (r : Found) : Type 0 where
  pub which : found_of r ≡ first_bad (bad_rail n) 0 [] (rails_of ends)
  pub laid : r ≡ None → Laid n (rails_of ends) table
