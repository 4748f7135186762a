use Rattle.std.specs.Prelude.{Option, ℕ}

abbrev pub Path : Type 0
Path = Option ℕ
