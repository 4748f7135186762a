use Rattle.std.specs.Prelude.{Option, ℕ}
use Rattle.docket.specs.declared.Bay.{Bay}

abbrev pub Way : Type 0
Way = Option (Bay × ℕ)
