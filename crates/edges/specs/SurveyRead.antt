use Rattle.std.specs.Prelude.{Result, ℕ}

abbrev pub SurveyRead : Type 0
SurveyRead = Result (ℕ × ℕ) ℕ
