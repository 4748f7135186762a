use Rattle.std.specs.Prelude.{Result, ℕ}

abbrev pub Sides : Type 0
Sides = Result (ℕ × ℕ) ℕ
