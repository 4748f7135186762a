use Rattle.std.specs.Prelude.{Result, ℕ}
use Rattle.docket.specs.declared.Refusal.{Refusal}

abbrev pub Counted : Type 0
Counted = Result (ℕ × ℕ) Refusal
