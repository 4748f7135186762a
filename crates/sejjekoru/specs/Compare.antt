-- What comparing two plans promises: its two numbers, the list whose rest is handed back, and what stands in the list of differences at the end.
-- Assumes nothing.
use Rattle.std.specs.Prelude.{◌≡◌, List, ℕ, ℤ, length}
use Rattle.comparing.specs.Comparing.{comparison, longer_by, differences_by, number_by, value_by}
use Rattle.numbers.specs.Tells.{Tells}

pub record CompareTells (first second : List ℕ) (lent : List ℤ) (number value longer : ℕ) (lent' : List ℤ) : Type 0 where
  pub tells : Tells (number_by (comparison first second (length lent))) (value_by (comparison first second (length lent))) number value
  pub which : longer ≡ longer_by first second (comparison first second (length lent))
  pub leaves : lent' ≡ differences_by first second lent (comparison first second (length lent))
