use Rattle.std.specs.Prelude.{Option, ℕ}

abbrev pub Found : Type 0
Found = Option ℕ
