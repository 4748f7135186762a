-- Marks of a plan of which nothing is done.
-- Assumes nothing.
use Rattle.std.specs.Prelude.{Bool, not, List, ℕ, eqb, ltb, length}
use Rattle.paper.specs.Basics.{◌and◌, any}

-- some mark is not 0
unfoldable pub any_set : List ℕ → Bool
any_set marks = any (λ m. ltb 0 m) marks

-- there is a mark for each crossing, and each is 0
unfoldable pub is_fresh : List ℕ → List ℕ → Bool
is_fresh plan marks = eqb (length marks) (length plan) and not (any_set marks)
