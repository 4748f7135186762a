use Rattle.std.specs.Prelude.{Result, ℕ}
use Rattle.docket.specs.declared.Refusal.{Refusal}

abbrev pub Verdict : Type 0
Verdict = Result ℕ Refusal
