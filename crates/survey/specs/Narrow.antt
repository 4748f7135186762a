-- Bays in 16 bits.
-- Assumes nothing.
use Rattle.std.specs.Prelude.{ℕ, min}

-- a number that is too large for 16 bits is above every bay, and so is 65,535: no yard has that many
unfoldable pub narrow : ℕ → ℕ
narrow x = min x 65535
