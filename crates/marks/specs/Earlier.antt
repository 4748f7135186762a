use Rattle.std.specs.Prelude.{Option, ℕ}

abbrev pub Earlier : Type 0
Earlier = Option ℕ
