use Rattle.std.specs.Prelude.{Option}
use Rattle.docket.specs.declared.Crossing.{Crossing}

abbrev pub Named : Type 0
Named = Option Crossing
