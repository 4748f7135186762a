use Rattle.std.specs.Prelude.{Result, ℕ}

abbrev pub Legality : Type 0
Legality = Result Unit ℕ
