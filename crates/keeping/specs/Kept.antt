use Rattle.std.specs.Prelude.{Option}
use Rattle.docket.specs.declared.Bay.{Bay}
use Rattle.acting.specs.declared.Tally.{Tally}

abbrev pub Kept : Type 0
Kept = Option (Bay × Tally)
