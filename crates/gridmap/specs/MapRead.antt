use Rattle.std.specs.Prelude.{Result, ℕ}
use Rattle.gridmap.specs.declared.Grid.{Grid}

abbrev pub MapRead : Type 0
MapRead = Result Grid ℕ
