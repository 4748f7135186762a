-- What is written of an exchange.
-- Assumes nothing.
use Rattle.std.specs.Prelude.{◌≡◌, List, map, ℕ, ◌+◌, length}
use Rattle.std.proofs.lemmas.List.Edits.{sets}
use Rattle.paper.specs.Procedure.{exchange}
use Rattle.paper.specs.Yard.{Bay, Carrier, Crossing, pack}

-- the crossings were counted from `at` on, and each stored at its count where the list is so long
pub record Noted (xs : List Crossing) (out : List ℕ) (at : ℕ) (out' : List ℕ) (r : ℕ) : Type 0 where
  pub stored : out' ≡ sets out at (map pack xs)
  pub counted : r ≡ at + length xs

-- (the code's function has the same name)
abbrev pub exchanges : Carrier → Carrier → Bay → Bay → Bay → Bay → List Crossing
exchanges L M v b x y = exchange L M v b x y
