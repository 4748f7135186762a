use Rattle.std.specs.Prelude.{Option}
use Rattle.sides.specs.declared.Due.{Due}

abbrev pub Taken : Type 0
Taken = Option Due
