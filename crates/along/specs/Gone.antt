use Rattle.std.specs.Prelude.{Option, ℕ}
use Rattle.acting.specs.declared.Tally.{Tally}

abbrev pub Gone : Type 0
Gone = Option (ℕ × Tally)
