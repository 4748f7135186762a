use Rattle.std.specs.Prelude.{Result, ℕ}

abbrev pub ScenarioRead : Type 0
ScenarioRead = Result ℕ ℕ
