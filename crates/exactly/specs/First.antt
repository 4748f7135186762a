-- "Given exactly if": a row of the table of refusals has a number, says when it is given, and what it carries. Of rows that are
-- tested in order, the one that is given applies, and none of those before it does.
-- Assumes nothing.
use Rattle.std.specs.Prelude.{Bool, true, false, not, List, [], ◌∷◌, ℕ, ◌<◌, eqb}
use Rattle.std.proofs.Math.Option.{Option, none, some}
use Rattle.paper.specs.Basics.{◌and◌, elem}

-- a row that carries nothing, with its words; or one that carries a value, with its words for each value
pub data Row : Type 1 where
  plain : ℕ → Type 0 → Row
  carrying : ℕ → (ℕ → Type 0) → Row

abbrev pub number_in : Row → ℕ
number_in (plain k P) = k
number_in (carrying k W) = k

-- the row applies, and that is what it carries
abbrev pub Applies : Row → Option ℕ → Type 0
Applies (plain k P) none = P
Applies (plain k P) (some v) = ⊥
Applies (carrying k W) none = ⊥
Applies (carrying k W) (some v) = W v

-- the row does not apply
abbrev pub Passed : Row → Type 0
Passed (plain k P) = P → ⊥
Passed (carrying k W) = (v : ℕ) → W v → ⊥

-- none of them applies
abbrev pub NoneOf : List Row → Type 0
NoneOf [] = Unit {0}
NoneOf (row ∷ rows) = Passed row × NoneOf rows

abbrev pub pick : Bool → Type 0 → Type 0 → Type 0
pick true P Q = P
pick false P Q = Q

-- the row of this number applies and carries that, and none of those tested before it applies
abbrev pub Given : List Row → ℕ → Option ℕ → Type 0
Given [] k v = ⊥
Given (row ∷ rows) k v = pick (eqb (number_in row) k) (Applies row v) (Passed row × Given rows k v)

-- no number stands twice
abbrev pub numbers_of : List Row → List ℕ
numbers_of [] = []
numbers_of (row ∷ rows) = number_in row ∷ numbers_of rows

unfoldable pub distinct : List ℕ → Bool
distinct [] = true
distinct (k ∷ ks) = not (elem k ks) and distinct ks

-- "the first", "the lowest": i is the first of k places at which it holds
pub record FirstOf (k : ℕ) (Bad : ℕ → Type 0) (i : ℕ) : Type 0 where
  pub there : i < k
  pub here : Bad i
  pub earlier : (j : ℕ) → j < i → Bad j → ⊥
