use Rattle.std.specs.Prelude.{Option, ℕ}
use Rattle.docket.specs.declared.Bay.{Bay}

abbrev pub Known : Type 0
Known = Option (Bay × ℕ)
