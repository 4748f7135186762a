use Rattle.std.specs.Prelude.{Option, ℕ}

abbrev pub Figure : Type 0
Figure = Option ℕ
