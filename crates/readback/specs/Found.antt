use Rattle.std.specs.Prelude.{Result, ℕ}

abbrev pub Found : Type 0
Found = Result ℕ ℕ
