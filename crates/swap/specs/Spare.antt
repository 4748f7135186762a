use Rattle.std.specs.Prelude.{Option}
use Rattle.docket.specs.declared.Bay.{Bay}

abbrev pub Spare : Type 0
Spare = Option (Bay × Bay)
