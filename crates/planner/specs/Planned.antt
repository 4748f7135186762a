use Rattle.std.specs.Prelude.{Result, ℕ}
use Rattle.docket.specs.declared.Refusal.{Refusal}

abbrev pub Planned : Type 0
Planned = Result ℕ Refusal
