use Rattle.std.specs.Prelude.{Option}
use Rattle.docket.specs.declared.Bay.{Bay}
use Rattle.acting.specs.declared.Tally.{Tally}

abbrev pub Pair : Type 0
Pair = Option (Bay × Bay × Tally)
