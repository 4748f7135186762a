-- What telling an answer promises.
-- Assumes nothing.
use Rattle.std.specs.Prelude.{◌≡◌, ℕ}

-- the number answered and the value stored are the due ones
pub record Tells (due due-value : ℕ) (number value : ℕ) : Type 0 where
  pub numbered : number ≡ due
  pub valued : value ≡ due-value
