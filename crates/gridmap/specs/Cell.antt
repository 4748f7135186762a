use Rattle.std.specs.Prelude.{Option, ℕ}

abbrev pub Cell : Type 0
Cell = Option ℕ
