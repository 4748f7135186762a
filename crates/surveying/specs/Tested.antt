use Rattle.std.specs.Prelude.{Result}
use Rattle.docket.specs.declared.Refusal.{Refusal}

abbrev pub Tested : Type 0
Tested = Result Unit Refusal
