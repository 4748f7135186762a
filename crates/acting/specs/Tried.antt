use Rattle.std.specs.Prelude.{Option}
use Rattle.acting.specs.declared.Tally.{Tally}

abbrev pub Tried : Type 0
Tried = Option Tally
